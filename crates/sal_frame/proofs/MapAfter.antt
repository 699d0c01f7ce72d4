-- The segments of macroblocks, as the loop filter's data of them has them.
use Rattle.std.proofs.Common.{◌≡◌, ℕ, ◌<◌, ◌≤◌, ◌∙◌, List, [], ◌∷◌, All, true, if◌then◌else◌, map, replicate, length, refl, sym, ap, arith}
use Rattle.std.proofs.lemmas.List.Elements.{All-map}
use Rattle.sal_header.specs.declared.header.Header.{Header}
use Rattle.sal_filter.specs.declared.head.MbInfo.{MbInfo}
use Rattle.sal_frame.specs.Records.{Macroblock, Record, info_of}
use Rattle.sal_frame.specs.After.{map_after}

same_segments : (bs : List Macroblock) → map (λ (info : MbInfo). info.mode.segment) (map info_of bs) ≡ map (λ (b : Macroblock). b.mode.segment) bs
unfolding info_of
same_segments [] = refl
same_segments (b ∷ bs) = ap (λ ns. b.mode.segment ∷ ns) (same_segments bs)

pub map_named : (f : Record) (h : Header) (infos : List MbInfo) (old m : List ℕ) → h.update_map ≡ true → f.header ≡ h → infos ≡ map info_of f.blocks → m ≡ map (λ (info : MbInfo). info.mode.segment) infos → m ≡ map_after f old
map_named f h infos old m updated header noted named =
    named ∙ (ap (λ is. map (λ (info : MbInfo). info.mode.segment) is) noted ∙ (same_segments f.blocks
    ∙ sym (ap (λ b. if b then map (λ (x : Macroblock). x.mode.segment) f.blocks else (if f.header.key then replicate (length f.blocks) 0 else old)) (ap (λ (x : Header). x.update_map) header ∙ updated))))

pub small_segments : (infos : List MbInfo) (m : List ℕ) → m ≡ map (λ (info : MbInfo). info.mode.segment) infos → All (λ (info : MbInfo). info.mode.segment ≤ 3) infos → All (λ segment. segment < 4) m
small_segments infos m named all = rw named (All-map (λ segment. segment < 4) (λ (info : MbInfo). info.mode.segment) infos (λ k d lt. let h = all k d lt in omega (arith, h)))
