-- What is read is spelled so, and what is spelled so is read.
use Rattle.std.proofs.Common.{◌≡◌, ℕ, ◌≤◌, ◌||◌, Bool, true, false, List, length, Option, Result, Ok, Err, Some, None, eqb, refl, ap, subst, ◌∙◌}
use Rattle.std.specs.Prelude.{slice_index, if◌then◌else◌, IfOk}
use Rattle.std.proofs.lemmas.Bool.{leb-true}
use Rattle.sal_wire.specs.declared.datagram.Datagram.{Datagram}
use Rattle.sal_wire.specs.declared.fault.WireFault.{WireFault}
use Rattle.sal_wire.specs.Message.{Message, FragmentMessage, AckMessage, ByeMessage, FitsMessage, IsDatagram, Serializes, message_of, as_message, message_bytes}
use Rattle.sal_wire.specs.Rules.{first_fault, front_tests, is_kind, head_length}
use Rattle.sal_wire.specs.Parsing.{unless, after_tests, parsed_ack, parsed_bye, parsed_fragment, parsed_as, parsed}
use Rattle.sal_wire.proofs.HeldLemmas.{all_passed}
use Rattle.sal_wire.proofs.Places.{AreBytes}
use Rattle.sal_wire.proofs.Again.{fragment_again}
use Rattle.sal_wire.proofs.AckAgain.{report_again, end_again}
use Rattle.sal_wire.proofs.Spelled.{fragment_spells}
use Rattle.sal_wire.proofs.AckSpelled.{report_spells, end_spells}

spelled_again : (d : Message) → FitsMessage d → IsDatagram d → parsed (message_bytes d) ≡ Ok d
spelled_again (FragmentMessage e) fits is = fragment_again e fits is
spelled_again (AckMessage a) fits is = report_again a fits is
spelled_again (ByeMessage session last) fits is = end_again session last fits

pub spells_again : (bytes : List ℕ) (d : Message) → Serializes bytes d → parsed bytes ≡ Ok d
spells_again bytes d h = ap (λ (x : List ℕ). parsed x) h.spelled ∙ spelled_again d h.fits h.meets

unless_ok : (o : Option WireFault) (x d : Message) → unless o x ≡ Ok d → (o ≡ None) × (x ≡ d)
unless_ok None x d h = (refl, cc)
unless_ok (Some f) x d h = absurd cc

after_ok : (o : Option WireFault) (r : Result Message WireFault) (d : Message) → after_tests o r ≡ Ok d → (o ≡ None) × (r ≡ Ok d)
after_ok None r d h = (refl, h)
after_ok (Some f) r d h = absurd cc

-- the front of bytes that are a datagram
record Fronts (bytes : List ℕ) : Type 0 where
  known : is_kind (slice_index bytes 0) ≡ true
  version : eqb (slice_index bytes 1) 1 ≡ true
  whole : head_length (slice_index bytes 0) ≤ length bytes

fronts : (bytes : List ℕ) → first_fault (front_tests bytes) ≡ None → Fronts bytes
fronts bytes none =
    let all = all_passed (front_tests bytes) none in
    record { known = all.1.0; version = all.1.1.0; whole = leb-true _ _ all.1.1.1.0 }

third : (f a b : Bool) → (f || a || b) ≡ true → a ≡ false → b ≡ false → f ≡ true
third true a b h ea eb = refl
third false true b h ea eb = absurd cc
third false false true h ea eb = absurd cc
third false false false h ea eb = h

as_kind : (bytes : List ℕ) → AreBytes bytes → Fronts bytes → (d : Message) (a b : Bool) → eqb (slice_index bytes 0) 0x41 ≡ a → eqb (slice_index bytes 0) 0x42 ≡ b
    → (if a then parsed_ack bytes else if b then parsed_bye bytes else parsed_fragment bytes) ≡ Ok d → (if a then 15 else if b then 10 else 56) ≤ length bytes → Serializes bytes d
as_kind bytes are front d true b ea eb h whole =
    let ok = unless_ok _ _ d h in
    subst (λ (x : Message). Serializes bytes x) ok.1 (report_spells bytes are whole ea front.version ok.0)
as_kind bytes are front d false true ea eb h whole =
    let ok = unless_ok _ _ d h in
    subst (λ (x : Message). Serializes bytes x) ok.1 (end_spells bytes are eb front.version ok.0)
as_kind bytes are front d false false ea eb h whole =
    let ok = unless_ok _ _ d h in
    let kind : eqb (slice_index bytes 0) 0x46 ≡ true = third _ _ _ front.known ea eb in
    subst (λ (x : Message). Serializes bytes x) ok.1 (fragment_spells bytes are whole kind front.version ok.0)

pub came_spells : (bytes : List ℕ) → AreBytes bytes → (d : Message) → parsed bytes ≡ Ok d → Serializes bytes d
unfolding parsed
came_spells bytes are d h =
    let ok = after_ok (first_fault (front_tests bytes)) (parsed_as (slice_index bytes 0) bytes) d h in
    let front = fronts bytes ok.0 in
    as_kind bytes are front d _ _ refl refl ok.1 front.whole

-- what was read meets the rules
pub meets_rules : (bytes : List ℕ) (o : Result Datagram WireFault) → ((d : Message) → as_message o ≡ Ok d → Serializes bytes d) → IfOk o (λ d. IsDatagram (message_of d))
meets_rules bytes (Ok d) spells = (spells (message_of d) refl).meets
meets_rules bytes (Err f) spells = tt
