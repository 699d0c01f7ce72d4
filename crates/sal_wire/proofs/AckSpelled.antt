-- An acknowledgement or an end that was read was spelled so.
use Rattle.std.proofs.Common.{◌≡◌, ℕ, zero, suc, ◌+◌, ◌*◌, ◌≤◌, true, List, ◌∷◌, ◌++◌, length, drop, None, leb, ltb, eqb, refl, sym, ap, ◌∙◌, arith, append_assoc, append-nil, flat_map}
use Rattle.std.specs.Prelude.{slice_index}
use Rattle.std.proofs.Math.ListN.{drop_of_length-le}
use Rattle.std.proofs.lemmas.Bool.{ltb-true, leb-true, eqb-true, and_parts}
use Rattle.std.proofs.lemmas.List.{drop_more}
use Rattle.sal_base.specs.Lists.{Each}
use Rattle.sal_wire.specs.Message.{AckMessage, ByeMessage, Serializes}
use Rattle.sal_wire.specs.Layout.{u32_bytes, name_bytes, state_bytes, ack_bytes, bye_bytes, AreRising, FitsAck}
use Rattle.sal_wire.specs.Rules.{first_fault, held_tests, ack_tests, bye_tests}
use Rattle.sal_wire.specs.Parsing.{big_endian_at, name_at, held_at, ack_fields}
use Rattle.sal_wire.proofs.HeldLemmas.{all_passed, length_held}
use Rattle.sal_wire.proofs.Places.{AreBytes, quad_again, name_again, front_again, number_fits, name_sent}

passes_rising : (n before place : ℕ) (bytes : List ℕ) → Each (λ t. t.0 ≡ true) (held_tests before place (held_at n place bytes)) → AreRising before (held_at n place bytes)
unfolding held_at
passes_rising zero before place bytes all = tt
passes_rising (suc n) before place bytes all =
    let number = big_endian_at 4 place bytes in
    let both = and_parts (ltb before number) (leb number 1048575) all.0 in
    (ltb-true before number both.0, leb-true number 1048575 both.1, name_sent (place + 4) bytes, passes_rising n number (place + 12) bytes all.1)

-- twelve bytes for each state
states_again : (n place : ℕ) (bytes : List ℕ) → AreBytes bytes → length bytes ≡ place + 12 * n → flat_map state_bytes (held_at n place bytes) ≡ drop place bytes
unfolding held_at
states_again zero place bytes are long = sym (drop_of_length-le bytes (omega arith))
states_again (suc n) place bytes are long =
    let more : flat_map state_bytes (held_at n (place + 12) bytes) ≡ drop (place + 12) bytes = states_again n (place + 12) bytes are (omega arith) in
    let name = name_bytes (name_at (place + 4) bytes) in
    ap (λ (x : List ℕ). (u32_bytes (big_endian_at 4 place bytes) ++ name) ++ x) more
    ∙ append_assoc (u32_bytes (big_endian_at 4 place bytes)) name (drop (place + 12) bytes)
    ∙ ap (λ (x : List ℕ). u32_bytes (big_endian_at 4 place bytes) ++ x) (name_again bytes (place + 4) (place + 12) (omega arith) (omega arith))
    ∙ quad_again bytes place (place + 4) are refl (omega arith)

-- fields that each stand before the next stand together
joined : (a b c d e d2 d6 d10 d14 d15 : List ℕ) → a ++ d6 ≡ d2 → b ++ d10 ≡ d6 → c ++ d14 ≡ d10 → d ++ d15 ≡ d14 → e ≡ d15 → (a ++ b ++ c ++ d) ++ e ≡ d2
joined a b c d e d2 d6 d10 d14 d15 ha hb hc hd he = simp append_assoc (rw (he, hd, hc, hb, ha) refl)

count_there : (bytes : List ℕ) → 15 ≤ length bytes → slice_index bytes 14 ∷ drop 15 bytes ≡ drop 14 bytes
count_there bytes long = sym (drop_more bytes 14 0 (omega arith))

ack_stands : (bytes : List ℕ) → AreBytes bytes → 15 ≤ length bytes → eqb (slice_index bytes 0) 0x41 ≡ true → eqb (slice_index bytes 1) 1 ≡ true
    → length bytes ≡ 15 + 12 * slice_index bytes 14 → ack_bytes (ack_fields bytes) ≡ bytes
unfolding ack_bytes ack_fields
ack_stands bytes are long kind version size =
    let count = slice_index bytes 14 in
    ap (λ (x : List ℕ). 0x41 ∷ 1 ∷ x)
    (joined _ _ _ _ _ (drop 2 bytes) (drop 6 bytes) (drop 10 bytes) (drop 14 bytes) (drop 15 bytes)
    (quad_again bytes 2 6 are refl (omega arith))
    (quad_again bytes 6 10 are refl (omega arith))
    (quad_again bytes 10 14 are refl (omega arith))
    (ap (λ (n : ℕ). n ∷ drop 15 bytes) (length_held count 15 bytes) ∙ count_there bytes long)
    (states_again count 15 bytes are size))
    ∙ front_again 0x41 bytes (omega arith) kind version

few_held : (bytes : List ℕ) → slice_index bytes 14 ≤ 16 → length (ack_fields bytes).held ≤ 16
unfolding ack_fields
few_held bytes few = let e = length_held (slice_index bytes 14) 15 bytes in omega (arith, e)

rising_held : (bytes : List ℕ) → Each (λ t. t.0 ≡ true) (held_tests 0 15 (ack_fields bytes).held) → AreRising 0 (ack_fields bytes).held
unfolding ack_fields
rising_held bytes all = passes_rising (slice_index bytes 14) 0 15 bytes all

ack_fits : (bytes : List ℕ) → AreBytes bytes → FitsAck (ack_fields bytes)
unfolding ack_fields
ack_fits bytes are = record { session = number_fits 4 2 bytes are; serial = number_fits 4 6 bytes are; gap = number_fits 4 10 bytes are }

pub report_spells : (bytes : List ℕ) → AreBytes bytes → 15 ≤ length bytes → eqb (slice_index bytes 0) 0x41 ≡ true → eqb (slice_index bytes 1) 1 ≡ true
    → first_fault (ack_tests (slice_index bytes 14) (length bytes) (ack_fields bytes).held) ≡ None → Serializes bytes (AckMessage (ack_fields bytes))
report_spells bytes are long kind version none =
    let few = all_passed (ack_tests (slice_index bytes 14) (length bytes) (ack_fields bytes).held) none in
    let size : length bytes ≡ 15 + 12 * slice_index bytes 14 = eqb-true _ _ few.1.0 in
    record {
      fits = ack_fits bytes are;
      meets = record { few = few_held bytes (leb-true _ _ few.0); rising = rising_held bytes few.1.1 };
      spelled = sym (ack_stands bytes are long kind version size);
    }

bye_stands : (bytes : List ℕ) → AreBytes bytes → eqb (slice_index bytes 0) 0x42 ≡ true → eqb (slice_index bytes 1) 1 ≡ true → length bytes ≡ 10
    → bye_bytes (big_endian_at 4 2 bytes) (big_endian_at 4 6 bytes) ≡ bytes
unfolding bye_bytes
bye_stands bytes are kind version long =
    let last : u32_bytes (big_endian_at 4 6 bytes) ≡ drop 6 bytes =
    sym (append-nil (u32_bytes (big_endian_at 4 6 bytes))) ∙ ap (λ (x : List ℕ). u32_bytes (big_endian_at 4 6 bytes) ++ x) (sym (drop_of_length-le bytes {i = 10} (omega arith))) ∙ quad_again bytes 6 10 are refl (omega arith) in
    ap (λ (x : List ℕ). 0x42 ∷ 1 ∷ u32_bytes (big_endian_at 4 2 bytes) ++ x) last
    ∙ ap (λ (x : List ℕ). 0x42 ∷ 1 ∷ x) (quad_again bytes 2 6 are refl (omega arith))
    ∙ front_again 0x42 bytes (omega arith) kind version

pub end_spells : (bytes : List ℕ) → AreBytes bytes → eqb (slice_index bytes 0) 0x42 ≡ true → eqb (slice_index bytes 1) 1 ≡ true
    → first_fault (bye_tests (length bytes)) ≡ None → Serializes bytes (ByeMessage (big_endian_at 4 2 bytes) (big_endian_at 4 6 bytes))
end_spells bytes are kind version none =
    let all = all_passed (bye_tests (length bytes)) none in
    record {
      fits = record { session_fits = number_fits 4 2 bytes are; last_fits = number_fits 4 6 bytes are };
      meets = tt;
      spelled = sym (bye_stands bytes are kind version (eqb-true _ _ all.0));
    }
