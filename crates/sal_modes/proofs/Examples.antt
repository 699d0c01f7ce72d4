-- Near vectors, computed; the values are another program's.
use Rattle.std.proofs.Common.{◌≡◌, ℤ, pos, negsuc, [], ◌∷◌, true, false, refl, replicate}
use Rattle.sal_macroblock.specs.declared.mode.RefKind.{RefKind}
use Rattle.sal_macroblock.specs.declared.mode.RefKind.TheVariants.{Last, Golden, Alt}
use Rattle.sal_base.specs.declared.kinds.YMode.{YMode}
use Rattle.sal_base.specs.declared.kinds.YMode.TheVariants.{DC, NEW, SPLIT}
use Rattle.sal_base.specs.declared.kinds.SubMode.TheVariants.{BDC}
use Rattle.sal_macroblock.specs.declared.mode.MbMode.{MbMode}
use Rattle.sal_macroblock.specs.Macroblocks.{vector, outside}
use Rattle.sal_modes.specs.Vectors.{bounds_of}
use Rattle.sal_modes.specs.Near.{near_of, noted, put_motion}

moved : RefKind → YMode → ℤ → ℤ → MbMode
moved r y row column = record { segment = 0; skip = false; reference = r; y = y; sub = replicate 16 BDC; chroma = DC; vectors = replicate 16 (vector row column) }

near_0 : near_of outside outside outside (record { golden = true; alt = false; own = false }) (bounds_of 10 9 3 4) ≡ record { best = vector (pos 0) (pos 0); nearest = vector (pos 0) (pos 0); near = vector (pos 0) (pos 0); counts = 0 ∷ 0 ∷ 0 ∷ 0 ∷ [] }
unfolding near_of noted put_motion moved outside
near_0 = refl

near_1 : near_of (moved Last NEW (pos 4) (pos 8)) (moved Last NEW (pos 4) (pos 8)) (moved Last NEW (pos 4) (pos 8)) (record { golden = true; alt = false; own = false }) (bounds_of 10 9 3 4) ≡ record { best = vector (pos 4) (pos 8); nearest = vector (pos 4) (pos 8); near = vector (pos 0) (pos 0); counts = 0 ∷ 5 ∷ 0 ∷ 0 ∷ [] }
unfolding near_of noted put_motion moved outside
near_1 = refl

near_2 : near_of (moved Last NEW (pos 4) (pos 8)) (moved Golden NEW (negsuc 3) (negsuc 7)) (moved Alt NEW (pos 3) (pos 3)) (record { golden = true; alt = false; own = false }) (bounds_of 10 9 3 4) ≡ record { best = vector (pos 4) (pos 8); nearest = vector (pos 4) (pos 8); near = vector (pos 3) (pos 3); counts = 0 ∷ 4 ∷ 1 ∷ 0 ∷ [] }
unfolding near_of noted put_motion moved outside
near_2 = refl

near_3 : near_of (moved Last NEW (pos 4) (pos 8)) (moved Last SPLIT (negsuc 3) (pos 0)) (moved Last NEW (pos 4) (pos 8)) (record { golden = true; alt = false; own = false }) (bounds_of 10 9 3 4) ≡ record { best = vector (pos 4) (pos 8); nearest = vector (pos 4) (pos 8); near = vector (negsuc 3) (pos 0); counts = 0 ∷ 3 ∷ 2 ∷ 2 ∷ [] }
unfolding near_of noted put_motion moved outside
near_3 = refl

near_4 : near_of (moved Last NEW (pos 0) (pos 0)) (moved Last SPLIT (negsuc 699) (pos 0)) (moved Golden SPLIT (pos 4) (pos 8)) (record { golden = true; alt = false; own = true }) (bounds_of 10 9 3 4) ≡ record { best = vector (pos 320) (pos 0); nearest = vector (pos 320) (pos 0); near = vector (pos 4) (pos 8); counts = 2 ∷ 2 ∷ 1 ∷ 3 ∷ [] }
unfolding near_of noted put_motion moved outside
near_4 = refl

near_5 : near_of outside (moved Alt NEW (pos 1) (pos 1)) (moved Alt NEW (pos 2) (pos 2)) (record { golden = true; alt = false; own = false }) (bounds_of 10 9 3 4) ≡ record { best = vector (pos 1) (pos 1); nearest = vector (pos 1) (pos 1); near = vector (pos 2) (pos 2); counts = 0 ∷ 2 ∷ 1 ∷ 0 ∷ [] }
unfolding near_of noted put_motion moved outside
near_5 = refl

near_6 : near_of (moved Last NEW (pos 1) (pos 1)) outside (moved Last NEW (pos 2) (pos 900)) (record { golden = true; alt = false; own = false }) (bounds_of 10 9 3 4) ≡ record { best = vector (pos 1) (pos 1); nearest = vector (pos 1) (pos 1); near = vector (pos 2) (pos 448); counts = 0 ∷ 2 ∷ 1 ∷ 0 ∷ [] }
unfolding near_of noted put_motion moved outside
near_6 = refl

near_7 : near_of (moved Last NEW (pos 0) (pos 0)) (moved Last NEW (pos 5) (pos 5)) outside (record { golden = true; alt = false; own = false }) (bounds_of 10 9 3 4) ≡ record { best = vector (pos 5) (pos 5); nearest = vector (pos 5) (pos 5); near = vector (pos 0) (pos 0); counts = 2 ∷ 2 ∷ 0 ∷ 0 ∷ [] }
unfolding near_of noted put_motion moved outside
near_7 = refl

near_8 : near_of (moved Golden SPLIT (pos 7) (negsuc 6)) (moved Last NEW (pos 7) (negsuc 6)) (moved Last SPLIT (negsuc 6) (pos 7)) (record { golden = true; alt = false; own = true }) (bounds_of 10 9 3 4) ≡ record { best = vector (pos 7) (negsuc 6); nearest = vector (pos 7) (negsuc 6); near = vector (negsuc 6) (pos 7); counts = 0 ∷ 3 ∷ 2 ∷ 3 ∷ [] }
unfolding near_of noted put_motion moved outside
near_8 = refl
