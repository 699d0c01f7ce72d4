-- A fragment that was read was spelled so.
use Rattle.std.proofs.Common.{◌≡◌, ℕ, ◌≤◌, true, List, ◌∷◌, ◌++◌, length, drop, None, leb, eqb, refl, sym, ap, ◌∙◌, arith, append_assoc}
use Rattle.std.specs.Prelude.{slice_index}
use Rattle.std.proofs.lemmas.Bool.Decides.{nat_tests}
use Rattle.sal_wire.specs.Fields.{FragmentFields}
use Rattle.sal_wire.specs.Message.{FragmentMessage, Serializes}
use Rattle.sal_wire.specs.Layout.{u16_bytes, fragment_bytes, FitsFragment, IsFragment, IsWireName}
use Rattle.sal_wire.specs.Rules.{first_fault, fragment_tests, in_window, is_index, are_sides, is_rate, is_length}
use Rattle.sal_wire.specs.Parsing.{big_endian_at, fragment_fields}
use Rattle.sal_wire.proofs.HeldLemmas.{all_passed}
use Rattle.sal_wire.proofs.Places.{AreBytes, quad_again, pair_again, name_again, front_again, number_fits, name_sent}

-- fields that each stand before the next stand together
joined : (x2 x6 x10 x14 x18 x26 x34 x36 x38 x42 x44 x46 x50 x54 d2 d6 d10 d14 d18 d26 d34 d36 d38 d42 d44 d46 d50 d54 d56 : List ℕ)
    → x2 ++ d6 ≡ d2 → x6 ++ d10 ≡ d6 → x10 ++ d14 ≡ d10 → x14 ++ d18 ≡ d14 → x18 ++ d26 ≡ d18 → x26 ++ d34 ≡ d26 → x34 ++ d36 ≡ d34 → x36 ++ d38 ≡ d36 → x38 ++ d42 ≡ d38 → x42 ++ d44 ≡ d42 → x44 ++ d46 ≡ d44 → x46 ++ d50 ≡ d46 → x50 ++ d54 ≡ d50 → x54 ++ d56 ≡ d54
    → (x2 ++ x6 ++ x10 ++ x14 ++ x18 ++ x26 ++ x34 ++ x36 ++ x38 ++ x42 ++ x44 ++ x46 ++ x50 ++ x54) ++ d56 ≡ d2
joined x2 x6 x10 x14 x18 x26 x34 x36 x38 x42 x44 x46 x50 x54 d2 d6 d10 d14 d18 d26 d34 d36 d38 d42 d44 d46 d50 d54 d56 h2 h6 h10 h14 h18 h26 h34 h36 h38 h42 h44 h46 h50 h54 = simp append_assoc (rw (h54, h50, h46, h44, h42, h38, h36, h34, h26, h18, h14, h10, h6, h2) refl)

text_again : (bytes : List ℕ) → AreBytes bytes → 56 ≤ length bytes → eqb (slice_index bytes 0) 0x46 ≡ true → eqb (slice_index bytes 1) 1 ≡ true → length (drop 56 bytes) ≡ big_endian_at 2 54 bytes → fragment_bytes (fragment_fields bytes) ≡ bytes
unfolding fragment_bytes fragment_fields
text_again bytes are long kind version said =
    ap (λ x. 0x46 ∷ 1 ∷ x)
    (joined _ _ _ _ _ _ _ _ _ _ _ _ _ _ (drop 2 bytes) (drop 6 bytes) (drop 10 bytes) (drop 14 bytes) (drop 18 bytes) (drop 26 bytes) (drop 34 bytes) (drop 36 bytes) (drop 38 bytes) (drop 42 bytes) (drop 44 bytes) (drop 46 bytes) (drop 50 bytes) (drop 54 bytes) (drop 56 bytes)
    (quad_again bytes 2 6 are refl (omega arith))
    (quad_again bytes 6 10 are refl (omega arith))
    (quad_again bytes 10 14 are refl (omega arith))
    (quad_again bytes 14 18 are refl (omega arith))
    (name_again bytes 18 26 refl (omega arith))
    (name_again bytes 26 34 refl (omega arith))
    (pair_again bytes 34 36 are refl (omega arith))
    (pair_again bytes 36 38 are refl (omega arith))
    (quad_again bytes 38 42 are refl (omega arith))
    (pair_again bytes 42 44 are refl (omega arith))
    (pair_again bytes 44 46 are refl (omega arith))
    (quad_again bytes 46 50 are refl (omega arith))
    (quad_again bytes 50 54 are refl (omega arith))
    (ap (λ n. u16_bytes n ++ drop 56 bytes) said ∙ pair_again bytes 54 56 are refl (omega arith)))
    ∙ front_again 0x46 bytes (omega arith) kind version

length_said : (said : ℕ) (e : FragmentFields) → is_length said e ≡ true → length e.bytes ≡ said
length_said said e long = grind (arith, nat_tests)

-- fields that pass the tests meet the rules
fields_meet : (e : FragmentFields) (said : ℕ) → length e.bytes ≡ said → IsWireName e.source → IsWireName e.target
    → leb 1 e.serial ≡ true → in_window e.number e.floor ≡ true → is_index e.index e.count ≡ true → are_sides e.width e.height ≡ true → is_rate e.rate ≡ true → is_length said e ≡ true
    → IsFragment e
fields_meet e said same source target serial window part sides rate long = record {
  serial = grind (arith, nat_tests);
  number = grind (arith, nat_tests);
  number_below = grind (arith, nat_tests);
  floor = grind (arith, nat_tests);
  floor_below = grind (arith, nat_tests);
  window = grind (arith, nat_tests);
  source = source;
  target = target;
  count = grind (arith, nat_tests);
  count_below = grind (arith, nat_tests);
  index = grind (arith, nat_tests);
  wide = grind (arith, nat_tests);
  not_wider = grind (arith, nat_tests);
  high = grind (arith, nat_tests);
  not_higher = grind (arith, nat_tests);
  pictures = grind (arith, nat_tests);
  seconds = grind (arith, nat_tests);
  some = grind (arith, nat_tests);
  short = grind (arith, nat_tests);
  whole = λ h. grind (arith, nat_tests);
}

fields_fit : (bytes : List ℕ) → AreBytes bytes → FitsFragment (fragment_fields bytes)
unfolding fragment_fields
fields_fit bytes are = record {
  session = number_fits 4 2 bytes are;
  serial = number_fits 4 6 bytes are;
  number = number_fits 4 10 bytes are;
  floor = number_fits 4 14 bytes are;
  index = number_fits 2 34 bytes are;
  count = number_fits 2 36 bytes are;
  pause = number_fits 4 38 bytes are;
  width = number_fits 2 42 bytes are;
  height = number_fits 2 44 bytes are;
  pictures = number_fits 4 46 bytes are;
  seconds = number_fits 4 50 bytes are;
}

source_sent : (bytes : List ℕ) → IsWireName (fragment_fields bytes).source
unfolding fragment_fields
source_sent bytes = name_sent 18 bytes

target_sent : (bytes : List ℕ) → IsWireName (fragment_fields bytes).target
unfolding fragment_fields
target_sent bytes = name_sent 26 bytes

data_of : (bytes : List ℕ) → (fragment_fields bytes).bytes ≡ drop 56 bytes
unfolding fragment_fields
data_of bytes = refl

pub fragment_spells : (bytes : List ℕ) → AreBytes bytes → 56 ≤ length bytes → eqb (slice_index bytes 0) 0x46 ≡ true → eqb (slice_index bytes 1) 1 ≡ true
    → first_fault (fragment_tests (big_endian_at 2 54 bytes) (fragment_fields bytes)) ≡ None → Serializes bytes (FragmentMessage (fragment_fields bytes))
fragment_spells bytes are long kind version none =
    let serial = all_passed (fragment_tests (big_endian_at 2 54 bytes) (fragment_fields bytes)) none in
    let window = serial.1 in
    let part = window.1 in
    let sides = part.1 in
    let rate = sides.1 in
    let last = rate.1 in
    let said : length (fragment_fields bytes).bytes ≡ big_endian_at 2 54 bytes = length_said (big_endian_at 2 54 bytes) (fragment_fields bytes) last.0 in
    record {
      fits = fields_fit bytes are;
      meets = fields_meet (fragment_fields bytes) (big_endian_at 2 54 bytes) said (source_sent bytes) (target_sent bytes) serial.0 window.0 part.0 sides.0 rate.0 last.0;
      spelled = sym (text_again bytes are long kind version (sym (ap (λ (x : List ℕ). length x) (data_of bytes)) ∙ said));
    }
