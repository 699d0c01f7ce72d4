-- The probabilities of a frame: what its updates are made on, what it is read with, and what it leaves. Sections are those of RFC 6386.
use Rattle.std.specs.Prelude.{ℕ, List, [], ◌∷◌, Bool, Option, None, if◌then◌else◌, unwrap_or, replicate}
use Rattle.sal_tables.specs.Tables.{default_coefficients_of, default_vectors_of, inter_y_probabilities_of, inter_chroma_probabilities_of}
use Rattle.sal_probs.specs.declared.updates.Updates.{Updates}

-- the probabilities of coefficients, of vectors, of the Y mode and of the chroma mode
pub record Table : Type 0 where
  pub coefficients : List ℕ
  pub vectors : List ℕ
  pub y : List ℕ
  pub chroma : List ℕ

-- each entry by its new value where there is one
abbrev pub replaced : List ℕ → List (Option ℕ) → List ℕ
replaced [] us = []
replaced (x ∷ xs) [] = x ∷ xs
replaced (x ∷ xs) (u ∷ us) = unwrap_or u x ∷ replaced xs us

abbrev pub updated : Table → Updates → Table
updated t u =
    record { coefficients = replaced t.coefficients u.coefficients; vectors = replaced t.vectors u.vectors; y = unwrap_or u.y t.y; chroma = unwrap_or u.chroma t.chroma }

-- the defaults (13.5, 16.2 and 17.2)
unfoldable pub initial_table : Table
initial_table =
    record { coefficients = default_coefficients_of; vectors = default_vectors_of; y = inter_y_probabilities_of; chroma = inter_chroma_probabilities_of }

-- what the updates of a frame are made on: the defaults in a key frame, else the state's (9.11)
abbrev pub base : Bool → Table → Table
base key old = if key then initial_table else old

-- what the frame is read with
abbrev pub used : Bool → Table → Updates → Table
used key old updates = updated (base key old) updates

-- what the next state has: those used where they are to be kept, else the base (9.11)
abbrev pub kept : Bool → Bool → Table → Updates → Table
kept key refresh old updates = if refresh then used key old updates else base key old

unfoldable pub no_updates : Updates
no_updates = record { coefficients = replicate 1056 None; vectors = replicate 38 None; y = None; chroma = None }
