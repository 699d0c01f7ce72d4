-- An acknowledgement or an end that was spelled is read again.
use Rattle.std.proofs.Common.{◌≡◌, ℕ, ◌+◌, ◌*◌, ◌^◌, ◌<◌, true, List, [], ◌∷◌, ◌++◌, length, drop, Ok, None, leb, ltb, refl, sym, ap, ◌∙◌, arith, append_assoc, length-append, flat_map}
use Rattle.std.specs.Prelude.{slice_index}
use Rattle.std.proofs.Math.Seq.{drop-append_seam, drop-append-add}
use Rattle.std.proofs.lemmas.Bool.{lt-ltb, le-leb, eq-eqb, and_from}
use Rattle.std.proofs.lemmas.List.{get_or-drop}
use Rattle.byteorder.specs.Endian.{big_number}
use Rattle.byteorder.specs.Numbers.{big_number-reads_back}
use Rattle.sal_base.specs.declared.name.Name.{Name}
use Rattle.sal_base.specs.Lists.{Each}
use Rattle.sal_wire.specs.declared.datagram.Ack.{Ack}
use Rattle.sal_wire.specs.Message.{AckMessage, ByeMessage}
use Rattle.sal_wire.specs.Layout.{u32_bytes, name_bytes, eight_zeros, state_bytes, ack_head, ack_bytes, bye_bytes, IsWireName, AreRising, IsAck, FitsAck, FitsBye}
use Rattle.sal_wire.specs.Rules.{first_fault, held_tests, ack_tests, bye_tests}
use Rattle.sal_wire.specs.Parsing.{big_endian_at, name_at, held_at, ack_fields, unless, parsed, parsed_as}
use Rattle.sal_wire.proofs.Fronts.{none_fails, front_passes, came_kind}

cells : (a b c d e f g h a' b' c' d' e' f' g' h' : ℕ) (rest : List ℕ) → a ≡ a' → b ≡ b' → c ≡ c' → d ≡ d' → e ≡ e' → f ≡ f' → g ≡ g' → h ≡ h'
    → a ∷ b ∷ c ∷ d ∷ e ∷ f ∷ g ∷ h ∷ rest ≡ a' ∷ b' ∷ c' ∷ d' ∷ e' ∷ f' ∷ g' ∷ h' ∷ rest
cells a b c d e f g h a' b' c' d' e' f' g' h' rest ea eb ec ed ee ef eg eh = cc

-- the name at a place is that at the front of what is left
name_moved : (place : ℕ) (bytes : List ℕ) → name_at place bytes ≡ name_at 0 (drop place bytes)
name_moved place bytes =
    let none : place + 0 ≡ place = omega arith in
    cells _ _ _ _ _ _ _ _ _ _ _ _ _ _ _ _ eight_zeros
    (ap (λ (n : ℕ). slice_index bytes n) (sym none) ∙ sym (get_or-drop place bytes 0 0))
    (sym (get_or-drop place bytes 1 0))
    (sym (get_or-drop place bytes 2 0))
    (sym (get_or-drop place bytes 3 0))
    (sym (get_or-drop place bytes 4 0))
    (sym (get_or-drop place bytes 5 0))
    (sym (get_or-drop place bytes 6 0))
    (sym (get_or-drop place bytes 7 0))

number_in_front : (front : List ℕ) (number : ℕ) (name more : List ℕ) → number < 2 ^ 32 → big_endian_at 4 (length front) (front ++ ((u32_bytes number ++ name_bytes name) ++ more)) ≡ number
unfolding u32_bytes name_bytes
number_in_front front number name more fits =
    ap (λ (x : List ℕ). big_number 4 x) (drop-append_seam front ((u32_bytes number ++ name_bytes name) ++ more)) ∙ big_number-reads_back 4 number [] fits

name_in_front : (front : List ℕ) (number : ℕ) (name more : List ℕ) → IsWireName name → name_at (length front + 4) (front ++ ((u32_bytes number ++ name_bytes name) ++ more)) ≡ name
unfolding u32_bytes name_bytes
name_in_front front number name more sent =
    name_moved (length front + 4) (front ++ ((u32_bytes number ++ name_bytes name) ++ more))
    ∙ ap (λ (x : List ℕ). name_at 0 x) (drop-append-add front ((u32_bytes number ++ name_bytes name) ++ more) 4)
    ∙ sym sent

length_state : (h : ℕ × Name) → length (state_bytes h) ≡ 12
unfolding u32_bytes name_bytes
length_state h = refl

length_states : (held : List (ℕ × Name)) → length (flat_map state_bytes held) ≡ 12 * length held
length_states [] = refl
length_states (h ∷ held) =
    let here = length_state h in
    let more = length_states held in
    let both = length-append (state_bytes h) (flat_map state_bytes held) in
    omega (arith, here, more, both)

held_again : (before : ℕ) (held : List (ℕ × Name)) (front : List ℕ) → AreRising before held → held_at (length held) (length front) (front ++ flat_map state_bytes held) ≡ held
unfolding held_at
held_again before [] front rising = refl
held_again before (h ∷ held) front rising =
    let more = flat_map state_bytes held in
    let bytes = front ++ (state_bytes h ++ more) in
    let number : big_endian_at 4 (length front) bytes ≡ h.0 = number_in_front front h.0 h.1.0 more (omega (arith, rising.1)) in
    let name : name_at (length front + 4) bytes ≡ h.1.0 = name_in_front front h.0 h.1.0 more rising.2 in
    let long : length (front ++ state_bytes h) ≡ length front + 12 = length-append front (state_bytes h) ∙ ap (λ (n : ℕ). length front + n) (length_state h) in
    let same : (front ++ state_bytes h) ++ more ≡ bytes = append_assoc front (state_bytes h) more in
    ap (λ (n : ℕ). (n, record { 0 = name_at (length front + 4) bytes }) ∷ held_at (length held) (length front + 12) bytes) number
    ∙ ap (λ (n : List ℕ). (h.0, record { 0 = n }) ∷ held_at (length held) (length front + 12) bytes) name
    ∙ ap (λ (x : List (ℕ × Name)). h ∷ x) (ap (λ (n : ℕ). held_at (length held) n bytes) (sym long) ∙ ap (λ (x : List ℕ). held_at (length held) (length (front ++ state_bytes h)) x) (sym same) ∙ held_again h.0 held (front ++ state_bytes h) rising.3)

-- an acknowledgement of these fields
abbrev ack : ℕ → ℕ → ℕ → List (ℕ × Name) → Ack
ack session serial gap held = record { session = session; serial = serial; gap = gap; held = held }

acks_equal : (session serial gap session' serial' gap' : ℕ) (held held' : List (ℕ × Name)) → session ≡ session' → serial ≡ serial' → gap ≡ gap' → held ≡ held'
    → ack session serial gap held ≡ ack session' serial' gap' held'
acks_equal session serial gap session' serial' gap' held held' a b c d = cc

count_again : (a : Ack) → slice_index (ack_bytes a) 14 ≡ length a.held
unfolding ack_bytes u32_bytes
count_again a = refl

ack_again : (a : Ack) → FitsAck a → IsAck a → ack_fields (ack_bytes a) ≡ a
unfolding ack_fields ack_bytes u32_bytes
ack_again a fits is =
    acks_equal _ _ _ _ _ _ _ _
    (big_number-reads_back 4 a.session [] fits.session)
    (big_number-reads_back 4 a.serial [] fits.serial)
    (big_number-reads_back 4 a.gap [] fits.gap)
    (held_again 0 a.held (ack_head a) is.rising)

length_ack : (a : Ack) → length (ack_bytes a) ≡ 15 + 12 * length a.held
unfolding ack_bytes u32_bytes
length_ack a = let e = length_states a.held in omega (arith, e)

rising_passes : (before place : ℕ) (held : List (ℕ × Name)) → AreRising before held → Each (λ t. t.0 ≡ true) (held_tests before place held)
rising_passes before place [] rising = tt
rising_passes before place (h ∷ held) rising = (and_from (ltb before h.0) (leb h.0 1048575) (lt-ltb before h.0 rising.0) (le-leb h.0 1048575 rising.1), rising_passes h.0 (place + 12) held rising.3)

ack_passes : (a : Ack) (count size : ℕ) → IsAck a → count ≡ length a.held → size ≡ 15 + 12 * length a.held → first_fault (ack_tests count size a.held) ≡ None
ack_passes a count size is same long =
    none_fails (ack_tests count size a.held)
    (le-leb count 16 (omega (arith, is.few)), (eq-eqb size (15 + 12 * count) (omega arith), rising_passes 0 15 a.held is.rising))

front_of_ack : (a : Ack) → parsed (ack_bytes a) ≡ parsed_as 0x41 (ack_bytes a)
unfolding ack_bytes
front_of_ack a = let long = length_ack a in came_kind (ack_bytes a) 0x41 refl (front_passes (ack_bytes a) 0x41 refl refl refl (omega (arith, long)) (omega (arith, long)))

pub report_again : (a : Ack) → FitsAck a → IsAck a → parsed (ack_bytes a) ≡ Ok (AckMessage a)
report_again a fits is =
    let bytes = ack_bytes a in
    front_of_ack a
    ∙ ap (λ (x : Ack). unless (first_fault (ack_tests (slice_index bytes 14) (length bytes) x.held)) (AckMessage x)) (ack_again a fits is)
    ∙ ap (λ x. unless x (AckMessage a)) (ack_passes a (slice_index bytes 14) (length bytes) is (count_again a) (length_ack a))

length_bye : (session last : ℕ) → length (bye_bytes session last) ≡ 10
unfolding bye_bytes u32_bytes
length_bye session last = refl

session_again : (session last : ℕ) → session < 2 ^ 32 → big_endian_at 4 2 (bye_bytes session last) ≡ session
unfolding bye_bytes u32_bytes
session_again session last fits = big_number-reads_back 4 session [] fits

last_again : (session last : ℕ) → last < 2 ^ 32 → big_endian_at 4 6 (bye_bytes session last) ≡ last
unfolding bye_bytes u32_bytes
last_again session last fits = big_number-reads_back 4 last [] fits

front_of_bye : (session last : ℕ) → parsed (bye_bytes session last) ≡ parsed_as 0x42 (bye_bytes session last)
unfolding bye_bytes
front_of_bye session last =
    let long = length_bye session last in
    came_kind (bye_bytes session last) 0x42 refl (front_passes (bye_bytes session last) 0x42 refl refl refl (omega (arith, long)) (omega (arith, long)))

pub end_again : (session last : ℕ) → FitsBye session last → parsed (bye_bytes session last) ≡ Ok (ByeMessage session last)
end_again session last fits =
    let bytes = bye_bytes session last in
    front_of_bye session last
    ∙ ap (λ (n : ℕ). unless (first_fault (bye_tests n)) (ByeMessage (big_endian_at 4 2 bytes) (big_endian_at 4 6 bytes))) (length_bye session last)
    ∙ ap (λ (n : ℕ). Ok (ByeMessage n (big_endian_at 4 6 bytes))) (session_again session last fits.session_fits)
    ∙ ap (λ (n : ℕ). Ok (ByeMessage session n)) (last_again session last fits.last_fits)
