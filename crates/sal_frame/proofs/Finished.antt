-- What a frame leads to, part by part.
use Rattle.std.proofs.Common.{◌≡◌, ◌∙◌, ℕ, List, Bool, Option, map, sym, ap}
use Rattle.sal_base.specs.declared.picture.Planes.{Planes}
use Rattle.sal_base.specs.declared.picture.Picture.{Picture}
use Rattle.sal_base.specs.declared.coding.Decoded.{Decoded}
use Rattle.sal_base.specs.Pictures.{cropped}
use Rattle.sal_header.specs.declared.header.Header.{Header}
use Rattle.sal_filter.specs.declared.head.MbInfo.{MbInfo}
use Rattle.sal_filter.specs.Filtered.{filtered}
use Rattle.sal_state.specs.States.{References, StateData}
use Rattle.sal_frame.specs.Records.{Record, filter_head, info_of}
use Rattle.sal_frame.specs.Built.{built}
use Rattle.sal_frame.specs.After.{planes_of, picture_of, state_after, decoded_of}

pub filtered_planes : (r : Option References) (f : Record) (h : Header) (infos : List MbInfo) (before after : Planes) → f.header ≡ h → before ≡ built r f → infos ≡ map info_of f.blocks
    → after ≡ filtered (filter_head h) infos before → after ≡ planes_of r f
unfolding planes_of
filtered_planes r f h infos before after header was noted is =
    is ∙ (ap (λ x. filtered (filter_head x) infos before) (sym header)
    ∙ (ap (λ x. filtered (filter_head f.header) x before) noted
    ∙ ap (λ x. filtered (filter_head f.header) (map info_of f.blocks) x) was))

pub cut_picture : (s : StateData) (f : Record) (width height : ℕ) (planes : Planes) (picture : Picture) → f.width ≡ width → f.height ≡ height → planes ≡ planes_of s.references f → picture ≡ cropped width height planes → picture ≡ picture_of s f
unfolding picture_of
cut_picture s f width height planes picture wide high are is =
    is ∙ (ap (λ n. cropped n height planes) (sym wide) ∙ (ap (λ n. cropped f.width n planes) (sym high) ∙ ap (λ p. cropped f.width f.height p) are))

pub all_of_it : (s next : StateData) (f : Record) (picture : Picture) (shown : Bool) → next ≡ state_after s f → picture ≡ picture_of s f → shown ≡ f.header.shown
    → record { state = next; picture = picture; shown = shown } ≡ decoded_of s f
unfolding decoded_of
all_of_it s next f picture shown a b c =
    ap (λ x. let d : Decoded StateData = record { state = x; picture = picture; shown = shown } in d) a
    ∙ (ap (λ x. let d : Decoded StateData = record { state = state_after s f; picture = x; shown = shown } in d) b
    ∙ ap (λ x. let d : Decoded StateData = record { state = state_after s f; picture = picture_of s f; shown = x } in d) c)
