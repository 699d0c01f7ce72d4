-- A frame that is cut into pieces is joined again.
use Rattle.std.proofs.Common.{◌≡◌, ℕ, zero, suc, ◌+◌, ◌-◌, ◌*◌, ◌<◌, ◌≤◌, min, List, [], ◌∷◌, ◌++◌, length, take, drop, refl, ap, sym, ◌∙◌, arith, append-nil}
use Rattle.std.specs.List.{flat_map}
use Rattle.std.proofs.Math.Seq.{take-add}
use Rattle.std.proofs.lemmas.List.{take_all, length-take, length-drop}
use Rattle.std.proofs.lemmas.Grind.{flat_map-append}
use Rattle.sal_wire.specs.Fragmentation.{below, fragment_count, fragment_data}

pieces_to : (bytes : List ℕ) (n : ℕ) → flat_map (fragment_data bytes) (below n) ≡ take (1200 * n) bytes
unfolding below
pieces_to bytes zero = refl
pieces_to bytes (suc n) =
    let more : 1200 * suc n ≡ 1200 * n + 1200 = omega arith in
    flat_map-append (fragment_data bytes) (below n) (n ∷ [])
    ∙ (ap (λ (xs : List ℕ). xs ++ (fragment_data bytes n ++ [])) (pieces_to bytes n)
    ∙ (ap (λ (xs : List ℕ). take (1200 * n) bytes ++ xs) (append-nil (fragment_data bytes n))
    ∙ (sym (take-add (1200 * n) 1200 bytes) ∙ ap (λ (k : ℕ). take k bytes) (sym more))))

-- all pieces in order are the frame
pub pieces_join : (bytes : List ℕ) → flat_map (fragment_data bytes) (below (fragment_count bytes)) ≡ bytes
pieces_join bytes = pieces_to bytes (fragment_count bytes) ∙ take_all (1200 * fragment_count bytes) bytes (omega arith)

piece_long : (bytes : List ℕ) (k : ℕ) → length (fragment_data bytes k) ≡ min 1200 (length bytes - 1200 * k)
piece_long bytes k = length-take 1200 (drop (1200 * k) bytes) ∙ ap (λ (n : ℕ). min 1200 n) (length-drop (1200 * k) bytes)

pub piece_some : (bytes : List ℕ) (k : ℕ) → k < fragment_count bytes → 1 ≤ length (fragment_data bytes k)
piece_some bytes k low = let l = piece_long bytes k in omega arith

pub piece_short : (bytes : List ℕ) (k : ℕ) → length (fragment_data bytes k) ≤ 1200
piece_short bytes k = let l = piece_long bytes k in omega arith

pub piece_whole : (bytes : List ℕ) (k : ℕ) → k + 1 < fragment_count bytes → length (fragment_data bytes k) ≡ 1200
piece_whole bytes k low = let l = piece_long bytes k in omega arith
