-- What stands before the partitions of a frame is read as it was written, and the partitions stand where they are looked for.
use Rattle.std.proofs.Common.{◌≡◌, ℕ, ◌+◌, ◌-◌, ◌*◌, ◌/◌, ◌%◌, ◌^◌, ◌<◌, ◌≤◌, ◌∙◌, List, [], ◌∷◌, ◌++◌, Bool, true, false, not, ◌||◌, ◌==◌, if◌then◌else◌, length, take, drop, refl, sym, ap, arith, slice_range, nat_lt, Result, Ok, Err}
use Rattle.std.proofs.lemmas.Bool.{le-ltb, eq-eqb, ne_eqb}
use Rattle.std.proofs.lemmas.List.{length-append, take_all, drop-drop}
use Rattle.std.proofs.Math.Seq.{take-append_seam, drop-append_seam}
use Rattle.sal_base.specs.Picture.{AreSides}
use Rattle.sal_base.specs.declared.coding.Fault.{Fault}
use Rattle.sal_base.specs.declared.coding.Fault.TheVariants.{Short, BadVersion, BadStart, ZeroSize, TooLarge, FirstPart, Partition}
use Rattle.sal_bool.specs.Syntax.{bit_of}
use Rattle.sal_header.specs.declared.tag.Tag.{Tag}
use Rattle.sal_header.specs.Tags.{little, is_start, side_at, sides_of, key_tag, tag_of, head_length, first_part_of, placed, parts_of}
use Rattle.sal_encode.specs.FrameBytes.{head_bytes}

abbrev pub tag_with : Bool → Bool → ℕ → ℕ × ℕ → Tag
tag_with key shown first size = record { key = key; shown = shown; size = first; width = if key then size.0 else 0; height = if key then size.1 else 0 }

-- a tag by its word
module _ (bytes : List ℕ) (word : ℕ) (long : 3 ≤ length bytes) (spelled : little 3 bytes 0 ≡ word) (version : word / 2 % 8 ≡ 0) where
  tag_by_word : tag_of bytes ≡ (if word % 2 == 0 then key_tag (word / 16 % 2 == 1) (word / 32) (sides_of bytes) else Ok (record { key = false; shown = word / 16 % 2 == 1; size = word / 32; width = 0; height = 0 }))
  unfolding tag_of
  tag_by_word =
      let enough : nat_lt (length bytes) 3 ≡ false = le-ltb _ _ long in
      let zero_version : (word / 2 % 8 == 0) ≡ true = eq-eqb _ _ version in
      let rest : ℕ → Result Tag Fault = λ w. if w % 2 == 0 then key_tag (w / 16 % 2 == 1) (w / 32) (sides_of bytes) else Ok (record { key = false; shown = w / 16 % 2 == 1; size = w / 32; width = 0; height = 0 }) in
      ap (λ (b : Bool). if b then Err Short else (if not (little 3 bytes 0 / 2 % 8 == 0) then Err (BadVersion (little 3 bytes 0 / 2 % 8)) else rest (little 3 bytes 0))) enough
      ∙ (ap (λ w. if not (w / 2 % 8 == 0) then Err (BadVersion (w / 2 % 8)) else rest w) spelled
      ∙ ap (λ (b : Bool). if not b then Err (BadVersion (word / 2 % 8)) else rest word) zero_version)

-- three bytes spell the word that they are the lowest of
spells_3 : (w : ℕ) → w < 16777216 → w % 256 + 256 * (w / 256 % 256 + 256 * (w / 256 / 256 % 256 + 256 * 0)) ≡ w
spells_3 w lt = omega arith

spells_2 : (w : ℕ) → w < 16384 → (w % 256 + 256 * (w / 256 % 256 + 256 * 0)) % 2 ^ 14 ≡ w
spells_2 w lt = omega arith

bit_small : (b : Bool) → bit_of b < 2
bit_small true = omega arith
bit_small false = omega arith

is_shown : (b : Bool) → (bit_of b == 1) ≡ b
is_shown true = refl
is_shown false = refl

sides_read : (a b c w h : ℕ) (rest : List ℕ) → AreSides w h
    → sides_of (a ∷ b ∷ c ∷ 0x9d ∷ 0x01 ∷ 0x2a ∷ w % 256 ∷ w / 256 % 256 ∷ h % 256 ∷ h / 256 % 256 ∷ rest) ≡ Ok (w, h)
unfolding sides_of
sides_read a b c w h rest s =
    let bytes : List ℕ = a ∷ b ∷ c ∷ 0x9d ∷ 0x01 ∷ 0x2a ∷ w % 256 ∷ w / 256 % 256 ∷ h % 256 ∷ h / 256 % 256 ∷ rest in
    let low = s.wide in
    let high = s.high in
    let low_end = s.not_wider in
    let high_end = s.not_higher in
    let enough : nat_lt (length bytes) 10 ≡ false = le-ltb _ _ (omega arith) in
    let wide : side_at bytes 6 ≡ w = spells_2 w (omega (arith, low_end)) in
    let tall : side_at bytes 8 ≡ h = spells_2 h (omega (arith, high_end)) in
    let more : (w == 0) ≡ false = ne_eqb w 0 (λ e. omega (arith, e, low)) in
    let taller : (h == 0) ≡ false = ne_eqb h 0 (λ e. omega (arith, e, high)) in
    let fits : nat_lt 1280 w ≡ false = le-ltb _ _ (omega (arith, low_end)) in
    let fit : nat_lt 720 h ≡ false = le-ltb _ _ (omega (arith, high_end)) in
    let after : ℕ → ℕ → Result (ℕ × ℕ) Fault = λ x y. if x == 0 || y == 0 then Err ZeroSize else (if nat_lt 1280 x || nat_lt 720 y then Err (TooLarge x y) else Ok (x, y)) in
    ap (λ (b : Bool). if b then Err Short else (if not (is_start bytes) then Err BadStart else after (side_at bytes 6) (side_at bytes 8))) enough
    ∙ (ap (λ x. after x (side_at bytes 8)) wide
    ∙ (ap (λ y. after w y) tall
    ∙ (ap (λ (b : Bool). if b || h == 0 then Err ZeroSize else (if nat_lt 1280 w || nat_lt 720 h then Err (TooLarge w h) else Ok (w, h))) more
    ∙ (ap (λ (b : Bool). if b then Err ZeroSize else (if nat_lt 1280 w || nat_lt 720 h then Err (TooLarge w h) else Ok (w, h))) taller
    ∙ (ap (λ (b : Bool). if b || nat_lt 720 h then Err (TooLarge w h) else Ok (w, h)) fits
    ∙ ap (λ (b : Bool). if b then Err (TooLarge w h) else Ok (w, h)) fit)))))

-- the tag and the start of a key frame
pub tag_again : (key shown : Bool) (first : ℕ) (size : ℕ × ℕ) (rest : List ℕ) → first < 524288 → (key ≡ true → AreSides size.0 size.1)
    → tag_of (head_bytes key shown first size ++ rest) ≡ Ok (tag_with key shown first size)
tag_again true shown first size rest lt sides =
    let w : ℕ = 0 + 16 * bit_of shown + 32 * first in
    let bytes : List ℕ = head_bytes true shown first size ++ rest in
    let small = bit_small shown in
    let below : w < 16777216 = omega (arith, lt, small) in
    let shows : w / 16 % 2 ≡ bit_of shown = omega (arith, small) in
    let holds : w / 32 ≡ first = omega (arith, small) in
    let even : (w % 2 == 0) ≡ true = eq-eqb _ _ (omega arith) in
    let all : Result Tag Fault = Ok (tag_with true shown first size) in
    tag_by_word bytes w (omega arith) (spells_3 w below) (omega (arith, small))
    ∙ (ap (λ (b : Bool). if b then key_tag (w / 16 % 2 == 1) (w / 32) (sides_of bytes) else Ok (record { key = false; shown = w / 16 % 2 == 1; size = w / 32; width = 0; height = 0 })) even
    ∙ (ap (λ (r : Result (ℕ × ℕ) Fault). key_tag (w / 16 % 2 == 1) (w / 32) r) (sides_read _ _ _ size.0 size.1 rest (sides refl))
    ∙ (ap (λ n. let r : Result Tag Fault = Ok (record { key = true; shown = n == 1; size = w / 32; width = size.0; height = size.1 }) in r) shows
    ∙ (ap (λ b. let r : Result Tag Fault = Ok (record { key = true; shown = b; size = w / 32; width = size.0; height = size.1 }) in r) (is_shown shown)
    ∙ ap (λ n. let r : Result Tag Fault = Ok (record { key = true; shown = shown; size = n; width = size.0; height = size.1 }) in r) holds))))
tag_again false shown first size rest lt sides =
    let w : ℕ = 1 + 16 * bit_of shown + 32 * first in
    let bytes : List ℕ = head_bytes false shown first size ++ rest in
    let small = bit_small shown in
    let below : w < 16777216 = omega (arith, lt, small) in
    let shows : w / 16 % 2 ≡ bit_of shown = omega (arith, small) in
    let holds : w / 32 ≡ first = omega (arith, small) in
    let odd : (w % 2 == 0) ≡ false = ne_eqb _ _ (λ e. omega (arith, e)) in
    tag_by_word bytes w (omega arith) (spells_3 w below) (omega (arith, small))
    ∙ (ap (λ (b : Bool). if b then key_tag (w / 16 % 2 == 1) (w / 32) (sides_of bytes) else Ok (record { key = false; shown = w / 16 % 2 == 1; size = w / 32; width = 0; height = 0 })) odd
    ∙ (ap (λ n. let r : Result Tag Fault = Ok (record { key = false; shown = n == 1; size = w / 32; width = 0; height = 0 }) in r) shows
    ∙ (ap (λ b. let r : Result Tag Fault = Ok (record { key = false; shown = b; size = w / 32; width = 0; height = 0 }) in r) (is_shown shown)
    ∙ ap (λ n. let r : Result Tag Fault = Ok (record { key = false; shown = shown; size = n; width = 0; height = 0 }) in r) holds)))

-- the partitions
head_behind : (key shown : Bool) (n : ℕ) (size : ℕ × ℕ) (rest : List ℕ) → drop (head_length key) (head_bytes key shown n size ++ rest) ≡ rest
head_behind true shown n size rest = refl
head_behind false shown n size rest = refl

pub head_long : (key shown : Bool) (n : ℕ) (size : ℕ × ℕ) → length (head_bytes key shown n size) ≡ head_length key
head_long true shown n size = refl
head_long false shown n size = refl

module _ (key shown : Bool) (size : ℕ × ℕ) (first tokens : List ℕ) where
  abbrev whole : List ℕ
  whole = head_bytes key shown (length first) size ++ (first ++ tokens)

  abbrev tag : Tag
  tag = tag_with key shown (length first) size

  abbrev place : ℕ
  place = head_length key + length first

  pub first_again : first_part_of whole tag ≡ Ok first
  unfolding first_part_of
  first_again =
      let rest = head_behind key shown (length first) size (first ++ tokens) in
      let long = length-append first tokens in
      let fits : nat_lt (length (first ++ tokens)) (length first) ≡ false = le-ltb _ _ (omega (arith, long)) in
      ap (λ (bs : List ℕ). if nat_lt (length bs) (length first) then Err (FirstPart (length first) (length bs)) else Ok (take (length first) bs)) rest
      ∙ (ap (λ (b : Bool). if b then Err (FirstPart (length first) (length (first ++ tokens))) else Ok (take (length first) (first ++ tokens))) fits
      ∙ ap (λ (bs : List ℕ). let r : Result (List ℕ) Fault = Ok bs in r) (take-append_seam first tokens))

  pub parts_again : parts_of whole tag 0 ≡ Ok ((place + 3 * 0, length whole - (place + 3 * 0)) ∷ [])
  unfolding parts_of placed
  parts_again =
      let fits : nat_lt (length whole - place) (3 * 0) ≡ false = le-ltb _ _ (omega arith) in
      ap (λ (b : Bool). if b then Err (Partition 0) else Ok ((place + 3 * 0, length whole - (place + 3 * 0)) ∷ [])) fits

  pub tokens_there : slice_range whole (place + 3 * 0) (place + 3 * 0 + (length whole - (place + 3 * 0))) ≡ tokens
  tokens_there =
      let long_head = head_long key shown (length first) size in
      let long = length-append (head_bytes key shown (length first) size) (first ++ tokens) in
      let longer = length-append first tokens in
      let n : place + 3 * 0 + (length whole - (place + 3 * 0)) - (place + 3 * 0) ≡ length tokens = omega (arith, long_head, long, longer) in
      let same : place + 3 * 0 ≡ head_length key + length first = omega arith in
      let at : drop (place + 3 * 0) whole ≡ tokens =
      ap (λ (k : ℕ). drop k whole) same
      ∙ (sym (drop-drop (length first) (head_length key) whole)
      ∙ (ap (λ (bs : List ℕ). drop (length first) bs) (head_behind key shown (length first) size (first ++ tokens)) ∙ drop-append_seam first tokens)) in
      ap (λ (k : ℕ). take k (drop (place + 3 * 0) whole)) n ∙ (ap (λ (bs : List ℕ). take (length tokens) bs) at ∙ take_all (length tokens) tokens (omega arith))
