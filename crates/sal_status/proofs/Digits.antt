-- What was put is the text of a number or of a status.
use Rattle.std.proofs.Common.{◌≡◌, ℕ, List, Option, sym, subst}
use Rattle.sal_io.specs.declared.whole.Put.{Put}
use Rattle.sal_io.specs.Calls.{PutGives}
use Rattle.sal_run.specs.declared.end.Summary.{Summary}
use Rattle.sal_status.specs.declared.status.Status.{Status}
use Rattle.sal_status.specs.Texts.{summary_text, text_of}

-- of digits, or of any other text within a text
pub with_digits : (old new : Option (List ℕ)) (r : Put) (text : List ℕ → List ℕ) (a b : List ℕ) → a ≡ b → PutGives old new r (text a) → PutGives old new r (text b)
with_digits old new r text a b e put = subst (λ (d : List ℕ). PutGives old new r (text d)) e put

-- of what a run counted
pub with_summary : (old new : Option (List ℕ)) (r : Put) (a b : Summary) → a ≡ b → PutGives old new r (summary_text a) → PutGives old new r (summary_text b)
with_summary old new r a b e put = subst (λ (s : Summary). PutGives old new r (summary_text s)) e put

-- of a status that is known
pub with_status : (old new : Option (List ℕ)) (r : Put) (words : List (List ℕ)) (a b : Status) → b ≡ a → PutGives old new r (text_of words a) → PutGives old new r (text_of words b)
with_status old new r words a b e put = subst (λ (s : Status). PutGives old new r (text_of words s)) (sym e) put
