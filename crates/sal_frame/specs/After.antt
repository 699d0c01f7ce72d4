-- What a frame leads to: the next state and the picture. Sections are those of RFC 6386.
use Rattle.std.specs.Prelude.{ℕ, List, Option, Some, None, if◌then◌else◌, ◌==◌, map, replicate, length}
use Rattle.sal_base.specs.declared.picture.Planes.{Planes}
use Rattle.sal_base.specs.declared.picture.Picture.{Picture}
use Rattle.sal_base.specs.declared.coding.Decoded.{Decoded}
use Rattle.sal_base.specs.Pictures.{cropped}
use Rattle.sal_probs.specs.Probabilities.{Table, kept}
use Rattle.sal_header.specs.declared.header.Header.{Header}
use Rattle.sal_header.specs.declared.header.Kept.{Kept}
use Rattle.sal_filter.specs.Filtered.{filtered}
use Rattle.sal_state.specs.States.{References, StateData}
use Rattle.sal_frame.specs.Records.{Macroblock, Record, filter_head, info_of}
use Rattle.sal_frame.specs.Built.{built}

-- the planes of the new picture after filtering, which later frames may refer to
unfoldable pub planes_of : Option References → Record → Planes
planes_of r f = filtered (filter_head f.header) (map info_of f.blocks) (built r f)

-- what a copy flag says of a reference: 1 and 2 name the others, 0 and 3 leave it (9.7)
abbrev pub copied : ℕ → Planes → Planes → Planes → Planes
copied flag old first second = if flag == 1 then first else (if flag == 2 then second else old)

-- a key frame replaces all three references
abbrev pub all_new : ℕ → ℕ → Planes → References
all_new width height p = record { width = width; height = height; last = p; golden = p; alt = p }

-- the copies that an inter frame makes, which are of the references before it (9.7)
abbrev pub with_copies : Header → References → References
with_copies h r = record r { golden = copied h.copy_golden r.golden r.last r.alt; alt = copied h.copy_alt r.alt r.last r.golden }

-- it replaces the references that it refreshes, copied to or not (9.7 and 9.8)
abbrev pub some_new : Header → ℕ → ℕ → Planes → References → References
some_new h width height p r =
    let c = with_copies h r in
    record {
      width = width;
      height = height;
      last = if h.refresh_last then p else c.last;
      golden = if h.refresh_golden then p else c.golden;
      alt = if h.refresh_alt then p else c.alt;
    }

-- the references that a header and planes of this size lead to
abbrev pub references_from : Header → ℕ → ℕ → Planes → Option References → References
references_from h width height p None = all_new width height p
references_from h width height p (Some r) = if h.key then all_new width height p else some_new h width height p r

-- and those after a frame
abbrev pub references_after : Record → Planes → Option References → References
references_after f p r = references_from f.header f.width f.height p r

-- the segment map: the new one where it is updated; else zeros after a key frame, and as it was after others (9.3)
abbrev pub map_after : Record → List ℕ → List ℕ
map_after f old =
    if f.header.update_map then map (λ (b : Macroblock). b.mode.segment) f.blocks
    else (if f.header.key then replicate (length f.blocks) 0 else old)

-- what a header leaves to later headers and macroblocks, with a map and probabilities (9.3, 9.4, 9.7 and 9.11)
abbrev pub kept_from : Header → List ℕ → Table → Kept
kept_from h map probs =
    record {
      absolute = h.absolute;
      quantisers = h.quantisers;
      levels = h.levels;
      ref_deltas = h.ref_deltas;
      mode_deltas = h.mode_deltas;
      bias_golden = h.bias_golden;
      bias_alt = h.bias_alt;
      map = map;
      probs = probs;
    }

-- what the next frame's header and macroblocks are read over
abbrev pub kept_after : Kept → Record → Kept
kept_after k f = kept_from f.header (map_after f k.map) (kept f.header.key f.header.refresh_entropy k.probs f.header.updates)

-- the state that a header, planes of this size, a map and probabilities lead to, from the references before them
abbrev pub state_from : Header → ℕ → ℕ → Planes → List ℕ → Table → Option References → StateData
state_from h width height p map probs r = record { kept = kept_from h map probs; references = Some (references_from h width height p r) }

-- the next state
unfoldable pub state_after : StateData → Record → StateData
state_after s f = record { kept = kept_after s.kept f; references = Some (references_after f (planes_of s.references f) s.references) }

-- the new picture, cut to its size (9.1)
unfoldable pub picture_of : StateData → Record → Picture
picture_of s f = cropped f.width f.height (planes_of s.references f)

-- all that a frame leads to
unfoldable pub decoded_of : StateData → Record → Decoded StateData
decoded_of s f = record { state = state_after s f; picture = picture_of s f; shown = f.header.shown }
