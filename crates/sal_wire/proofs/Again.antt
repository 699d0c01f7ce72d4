-- A fragment that was spelled is read again.
use Rattle.std.proofs.Common.{◌≡◌, ◌+◌, ◌^◌, ◌<◌, ◌≤◌, [], length, Ok, None, refl, sym, ◌∙◌, arith}
use Rattle.std.proofs.lemmas.Bool.Decides.{nat_tests}
use Rattle.byteorder.specs.Numbers.{big_number-reads_back}
use Rattle.sal_wire.specs.Fields.{FragmentFields}
use Rattle.sal_wire.specs.Message.{FragmentMessage}
use Rattle.sal_wire.specs.Layout.{u32_bytes, u16_bytes, name_bytes, fragment_bytes, FitsFragment, IsFragment}
use Rattle.sal_wire.specs.Rules.{first_fault, fragment_tests}
use Rattle.sal_wire.specs.Parsing.{big_endian_at, fragment_fields, parsed, parsed_as}
use Rattle.sal_wire.proofs.Entries.{entries_equal}
use Rattle.sal_wire.proofs.Fronts.{front_passes, came_kind}

entry_again : (e : FragmentFields) → FitsFragment e → IsFragment e → length e.bytes < 2 ^ 16 → fragment_fields (fragment_bytes e) ≡ e
unfolding fragment_fields fragment_bytes u32_bytes u16_bytes name_bytes
entry_again e fits is short =
    entries_equal _ _ _ _ _ _ _ _ _ _ _ _ _ _ _ _ _ _ _ _ _ _ _ _ _ _ _ _
    (big_number-reads_back 4 e.session [] fits.session)
    (big_number-reads_back 4 e.serial [] fits.serial)
    (big_number-reads_back 4 e.number [] fits.number)
    (big_number-reads_back 4 e.floor [] fits.floor)
    (sym is.source)
    (sym is.target)
    (big_number-reads_back 2 e.index [] fits.index)
    (big_number-reads_back 2 e.count [] fits.count)
    (big_number-reads_back 4 e.pause [] fits.pause)
    (big_number-reads_back 2 e.width [] fits.width)
    (big_number-reads_back 2 e.height [] fits.height)
    (big_number-reads_back 4 e.rate.0 [] fits.pictures)
    (big_number-reads_back 4 e.rate.1 [] fits.seconds)
    refl

length_again : (e : FragmentFields) → length e.bytes < 2 ^ 16 → big_endian_at 2 54 (fragment_bytes e) ≡ length e.bytes
unfolding fragment_bytes u32_bytes u16_bytes name_bytes
length_again e short = big_number-reads_back 2 (length e.bytes) [] short

length_text : (e : FragmentFields) → length (fragment_bytes e) ≡ 56 + length e.bytes
unfolding fragment_bytes u32_bytes u16_bytes name_bytes
length_text e = omega arith

unbroken : (e : FragmentFields) → IsFragment e → first_fault (fragment_tests (length e.bytes) e) ≡ None
unbroken e is = grind (arith, nat_tests)

front_of_text : (e : FragmentFields) → 56 ≤ length (fragment_bytes e) → parsed (fragment_bytes e) ≡ parsed_as 0x46 (fragment_bytes e)
unfolding fragment_bytes
front_of_text e long = came_kind (fragment_bytes e) 0x46 refl (front_passes (fragment_bytes e) 0x46 refl refl refl (omega arith) long)

pub fragment_again : (e : FragmentFields) → FitsFragment e → IsFragment e → parsed (fragment_bytes e) ≡ Ok (FragmentMessage e)
fragment_again e fits is =
    let short : length e.bytes < 2 ^ 16 = omega (arith, is.short) in
    front_of_text e (omega (arith, length_text e)) ∙ rw (entry_again e fits is short, length_again e short, unbroken e is) refl
