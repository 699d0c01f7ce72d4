use Rattle.std.proofs.Common.{ℕ, List, Option, Some, None, IfSome, ◌≡◌, ◌∙◌, refl, sym, replicate, length, slice_set, lit<}
use Rattle.std.proofs.lemmas.List.{length-replicate, length-set}
use Rattle.sal_base.specs.Lists.{Each}
use Rattle.sal_header.specs.Headers.{no_inter_modes}
use Rattle.sal_header.specs.Written.{IsBelow}
use Rattle.sal_header.proofs.FullHeaders.{impossible, each_same, each_put, some_kept}
use Rattle.sal_header.proofs.tests.full_key.Goals as goal

abbrev Fits : Option ℕ → Type 0
Fits u = IfSome u (IsBelow 8)

abbrev same : List (Option ℕ)
same = replicate 1056 (Some 200)

abbrev first_put : List (Option ℕ)
first_put = slice_set same 0 (Some 0)

abbrev second_put : List (Option ℕ)
second_put = slice_set first_put 527 None

count : length (slice_set second_put 1055 (Some 255)) ≡ 1056
count = length-set second_put 1055 (Some 255) ∙ (length-set first_put 527 None ∙ (length-set same 0 (Some 0) ∙ length-replicate {A = Option ℕ} 1056 (Some 200)))

each : Each Fits (slice_set second_put 1055 (Some 255))
each = each_put Fits (Some 255) (lit< tt) second_put 1055 (each_put Fits None tt first_put 527 (each_put Fits (Some 0) (lit< tt) same 0 (each_same Fits (Some 200) (lit< tt) 1056)))

pub returns : goal.returns
unfolding no_inter_modes
returns c = (
  some_kept,
  record {
    no_colour = λ e. impossible e;
    segments = record {
      no_flags = λ e. impossible e;
      new_data = λ e. record { quantisers = (refl, (lit< tt, (lit< tt, (lit< tt, (lit< tt, tt))))); levels = (refl, (lit< tt, (lit< tt, (lit< tt, (lit< tt, tt))))) };
      old_data = λ e. impossible e;
      new_map = λ e. (refl, (lit< tt, (lit< tt, (lit< tt, tt))));
      no_map = λ e. impossible e;
    };
    filtering = record {
      level = lit< tt;
      sharpness = lit< tt;
      no_update = λ e. impossible e;
      new_deltas = λ e. record { references = (refl, (lit< tt, (lit< tt, (lit< tt, (lit< tt, tt))))); modes = (refl, (lit< tt, (lit< tt, (lit< tt, (lit< tt, tt))))) };
      places = λ e. (refl, refl);
      old_deltas = λ e. impossible e;
    };
    log2 = lit< tt;
    quantisers = record { y_ac = lit< tt; y_dc = lit< tt; y2_dc = lit< tt; y2_ac = lit< tt; uv_dc = lit< tt; uv_ac = lit< tt };
    refreshing = record { in_key = λ e. refl; copies = (lit< tt, lit< tt); no_copy_golden = λ e. impossible (sym e); no_copy_alt = λ e. impossible (sym e) };
    coefficients = (count, each);
    modes = record { skip = lit< tt; no_skip = λ e. impossible e; inter = λ e. impossible e; in_key = λ e. refl };
  },
)
