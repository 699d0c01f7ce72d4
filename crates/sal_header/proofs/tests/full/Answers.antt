use Rattle.std.proofs.Common.{ℕ, Option, Some, IfSome, refl, sym, inr, lit<, lit≤}
use Rattle.std.proofs.lemmas.List.{length-replicate}
use Rattle.sal_header.specs.Written.{IsBelow, IsVectorProbability}
use Rattle.sal_header.proofs.FullHeaders.{impossible, each_same, some_kept}
use Rattle.sal_header.proofs.tests.full.Goals as goal

byte_fits : IfSome (Some 200) (IsBelow 8)
byte_fits = lit< tt

vector_fits : IfSome (Some 254) IsVectorProbability
vector_fits = inr (refl, lit≤ tt, lit≤ tt)

pub returns : goal.returns
returns c = (
  some_kept,
  record {
    no_colour = λ e. (refl, refl);
    segments = record {
      no_flags = λ e. impossible e;
      new_data = λ e. record { quantisers = (refl, (lit< tt, (lit< tt, (lit< tt, (lit< tt, tt))))); levels = (refl, (lit< tt, (lit< tt, (lit< tt, (lit< tt, tt))))) };
      old_data = λ e. impossible e;
      new_map = λ e. (refl, (lit< tt, (lit< tt, (lit< tt, tt))));
      no_map = λ e. impossible e;
    };
    filtering = record {
      level = lit< tt;
      sharpness = lit< tt;
      no_update = λ e. impossible e;
      new_deltas = λ e. record { references = (refl, (lit< tt, (lit< tt, (lit< tt, (lit< tt, tt))))); modes = (refl, (lit< tt, (lit< tt, (lit< tt, (lit< tt, tt))))) };
      places = λ e. (refl, refl);
      old_deltas = λ e. impossible e;
    };
    log2 = lit< tt;
    quantisers = record { y_ac = lit< tt; y_dc = lit< tt; y2_dc = lit< tt; y2_ac = lit< tt; uv_dc = lit< tt; uv_ac = lit< tt };
    refreshing = record { in_key = λ e. impossible (sym e); copies = (lit< tt, lit< tt); no_copy_golden = λ e. impossible (sym e); no_copy_alt = λ e. impossible (sym e) };
    coefficients = (length-replicate {A = Option ℕ} 1056 (Some 200), each_same (λ (u : Option ℕ). IfSome u (IsBelow 8)) (Some 200) byte_fits 1056);
    modes = record {
      skip = lit< tt;
      no_skip = λ e. impossible e;
      inter = λ e. record {
        numbers = (lit< tt, lit< tt, lit< tt);
        y = (refl, (lit< tt, (lit< tt, (lit< tt, (lit< tt, tt)))));
        chroma = (refl, (lit< tt, (lit< tt, (lit< tt, tt))));
        vectors = (length-replicate {A = Option ℕ} 38 (Some 254), each_same (λ (u : Option ℕ). IfSome u IsVectorProbability) (Some 254) vector_fits 38);
      };
      in_key = λ e. impossible (sym e);
    };
  },
)
