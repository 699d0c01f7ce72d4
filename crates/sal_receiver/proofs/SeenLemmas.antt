-- The words on frames speak of shares as of what they share.
use Rattle.std.proofs.Common.{◌≡◌, ℕ, Bool, true, false, cond, List, [], ◌∷◌, map, refl, ap, ltb, eqb}
use Rattle.std.specs.Option.{option_map}
use Rattle.std.specs.declared.option.Option.{Option}
use Rattle.std.specs.declared.option.Option.TheVariants.{Some, None}
use Rattle.std.specs.declared.sync.Arc.{Arc}
use Rattle.sal_receiver.specs.declared.pending_frame.Stage.{Stage}
use Rattle.sal_receiver.specs.declared.pending_frame.Stage.TheVariants as stages
use Rattle.sal_receiver.specs.declared.pending_frame.PendingFrame.{PendingFrame}
use Rattle.sal_receiver.specs.declared.pending_frame.DecodeTask.{DecodeTask}
use Rattle.sal_receiver.specs.Pending.{frame_unshared, stage_unshared, at, frame_inserted, without, restaged, left_from, is_left, is_ready_stage, is_whole, is_out_stage, is_out_at, handed_out, out_first, first_ready, task_in, wanting}
use Rattle.sal_receiver.specs.Handed.{HandedFrame, handed_as}

-- what is handed out, of a frame with its state
abbrev pub task_handed : {S : Type 0} → DecodeTask S → HandedFrame S
task_handed t = record { number = t.number; target = t.target.0; source = t.source; bytes = t.bytes }

module _ {S Z : Type 0} where
  put_step : (b : Bool) (k x : PendingFrame (Arc S Z)) (xs ys : List (PendingFrame (Arc S Z))) (zs : List (PendingFrame S)) → map frame_unshared ys ≡ zs → map frame_unshared (cond b (k ∷ x ∷ xs) (x ∷ ys)) ≡ cond b (frame_unshared k ∷ frame_unshared x ∷ map frame_unshared xs) (frame_unshared x ∷ zs)
  put_step true k x xs ys zs h = refl
  put_step false k x xs ys zs h = ap (λ (r : List (PendingFrame S)). frame_unshared x ∷ r) h

  pub put_seen : (k : PendingFrame (Arc S Z)) (xs : List (PendingFrame (Arc S Z))) → map frame_unshared (frame_inserted k xs) ≡ frame_inserted (frame_unshared k) (map frame_unshared xs)
  put_seen k [] = refl
  put_seen k (x ∷ xs) = put_step (ltb k.number x.number) k x xs (frame_inserted k xs) (frame_inserted (frame_unshared k) (map frame_unshared xs)) (put_seen k xs)

  without_step : (b : Bool) (x : PendingFrame (Arc S Z)) (xs ys : List (PendingFrame (Arc S Z))) (zs : List (PendingFrame S)) → map frame_unshared ys ≡ zs → map frame_unshared (cond b xs (x ∷ ys)) ≡ cond b (map frame_unshared xs) (frame_unshared x ∷ zs)
  without_step true x xs ys zs h = refl
  without_step false x xs ys zs h = ap (λ (r : List (PendingFrame S)). frame_unshared x ∷ r) h

  pub without_seen : (n : ℕ) (xs : List (PendingFrame (Arc S Z))) → map frame_unshared (without n xs) ≡ without n (map frame_unshared xs)
  without_seen n [] = refl
  without_seen n (x ∷ xs) = without_step (eqb x.number n) x xs (without n xs) (without n (map frame_unshared xs)) (without_seen n xs)

  restaged_step : (b : Bool) (y x : PendingFrame (Arc S Z)) (xs ys : List (PendingFrame (Arc S Z))) (zs : List (PendingFrame S)) → map frame_unshared ys ≡ zs → map frame_unshared (cond b (y ∷ xs) (x ∷ ys)) ≡ cond b (frame_unshared y ∷ map frame_unshared xs) (frame_unshared x ∷ zs)
  restaged_step true y x xs ys zs h = refl
  restaged_step false y x xs ys zs h = ap (λ (r : List (PendingFrame S)). frame_unshared x ∷ r) h

  pub restaged_seen : (n : ℕ) (stage : Stage (Arc S Z)) (xs : List (PendingFrame (Arc S Z))) → map frame_unshared (restaged n stage xs) ≡ restaged n (stage_unshared stage) (map frame_unshared xs)
  restaged_seen n stage [] = refl
  restaged_seen n stage (x ∷ xs) = restaged_step (eqb x.number n) (record x { stage = stage }) x xs (restaged n stage xs) (restaged n (stage_unshared stage) (map frame_unshared xs)) (restaged_seen n stage xs)

  left_same : (floor n : ℕ) (stage : Stage (Arc S Z)) → is_left floor n (stage_unshared stage) ≡ is_left floor n stage
  left_same floor n (stages.Complete bytes) = refl
  left_same floor n (stages.Ready source bytes) = refl
  left_same floor n stages.Decoding = refl

  left_step : (b c : Bool) (x : PendingFrame (Arc S Z)) (ys : List (PendingFrame (Arc S Z))) (zs : List (PendingFrame S)) → c ≡ b → map frame_unshared ys ≡ zs → map frame_unshared (cond b (x ∷ ys) ys) ≡ cond c (frame_unshared x ∷ zs) zs
  left_step true true x ys zs e h = ap (λ (r : List (PendingFrame S)). frame_unshared x ∷ r) h
  left_step true false x ys zs e h = absurd (cc)
  left_step false true x ys zs e h = absurd (cc)
  left_step false false x ys zs e h = h

  pub left_seen : (floor : ℕ) (xs : List (PendingFrame (Arc S Z))) → map frame_unshared (left_from floor xs) ≡ left_from floor (map frame_unshared xs)
  left_seen floor [] = refl
  left_seen floor (x ∷ xs) = left_step (is_left floor x.number x.stage) (is_left floor x.number (stage_unshared x.stage)) x (left_from floor xs) (left_from floor (map frame_unshared xs)) (left_same floor x.number x.stage) (left_seen floor xs)

  waiting_same : (stage : Stage (Arc S Z)) → is_ready_stage (stage_unshared stage) ≡ is_ready_stage stage
  waiting_same (stages.Complete bytes) = refl
  waiting_same (stages.Ready source bytes) = refl
  waiting_same stages.Decoding = refl

  handed_same : (n : ℕ) (source target : Rattle.sal_base.specs.declared.name.Name.Name) (stage : Stage (Arc S Z)) → frame_unshared (handed_out (record { number = n; source = source; target = target; stage = stage })) ≡ handed_out (frame_unshared (record { number = n; source = source; target = target; stage = stage }))
  handed_same n source target (stages.Complete bytes) = refl
  handed_same n source target (stages.Ready state bytes) = refl
  handed_same n source target stages.Decoding = refl

  out_step : (b c : Bool) (x : PendingFrame (Arc S Z)) (xs ys : List (PendingFrame (Arc S Z))) (zs : List (PendingFrame S)) → c ≡ b → map frame_unshared ys ≡ zs → map frame_unshared (cond b (handed_out x ∷ xs) (x ∷ ys)) ≡ cond c (handed_out (frame_unshared x) ∷ map frame_unshared xs) (frame_unshared x ∷ zs)
  out_step true true x xs ys zs e h = ap (λ (p : PendingFrame S). p ∷ map frame_unshared xs) (handed_same x.number x.source x.target x.stage)
  out_step true false x xs ys zs e h = absurd (cc)
  out_step false true x xs ys zs e h = absurd (cc)
  out_step false false x xs ys zs e h = ap (λ (r : List (PendingFrame S)). frame_unshared x ∷ r) h

  pub out_seen : (xs : List (PendingFrame (Arc S Z))) → map frame_unshared (out_first xs) ≡ out_first (map frame_unshared xs)
  out_seen [] = refl
  out_seen (x ∷ xs) = out_step (is_ready_stage x.stage) (is_ready_stage (stage_unshared x.stage)) x xs (out_first xs) (out_first (map frame_unshared xs)) (waiting_same x.stage) (out_seen xs)

  find_step : (b c : Bool) (x : PendingFrame (Arc S Z)) (o : Option (PendingFrame (Arc S Z))) (p : Option (PendingFrame S)) → c ≡ b → p ≡ option_map frame_unshared o → cond c (Some (frame_unshared x)) p ≡ option_map frame_unshared (cond b (Some x) o)
  find_step true true x o p e h = refl
  find_step true false x o p e h = absurd (cc)
  find_step false true x o p e h = absurd (cc)
  find_step false false x o p e h = h

  pub first_seen : (xs : List (PendingFrame (Arc S Z))) → first_ready (map frame_unshared xs) ≡ option_map frame_unshared (first_ready xs)
  first_seen [] = refl
  first_seen (x ∷ xs) = find_step (is_ready_stage x.stage) (is_ready_stage (stage_unshared x.stage)) x (first_ready xs) (first_ready (map frame_unshared xs)) (waiting_same x.stage) (first_seen xs)

  pub at_seen : (n : ℕ) (xs : List (PendingFrame (Arc S Z))) → at n (map frame_unshared xs) ≡ option_map frame_unshared (at n xs)
  at_seen n [] = refl
  at_seen n (x ∷ xs) = find_step (eqb x.number n) (eqb x.number n) x (at n xs) (at n (map frame_unshared xs)) refl (at_seen n xs)

  stage_out_same : (stage : Stage (Arc S Z)) → is_out_stage (stage_unshared stage) ≡ is_out_stage stage
  stage_out_same (stages.Complete bytes) = refl
  stage_out_same (stages.Ready source bytes) = refl
  stage_out_same stages.Decoding = refl

  pub out_at_seen : (o : Option (PendingFrame (Arc S Z))) → is_out_at (option_map frame_unshared o) ≡ is_out_at o
  out_at_seen None = refl
  out_at_seen (Some p) = stage_out_same p.stage

  stage_task_same : (n : ℕ) (source target : Rattle.sal_base.specs.declared.name.Name.Name) (stage : Stage (Arc S Z)) → option_map handed_as (task_in (Some (record { number = n; source = source; target = target; stage = stage }))) ≡ option_map task_handed (task_in (option_map frame_unshared (Some (record { number = n; source = source; target = target; stage = stage }))))
  stage_task_same n source target (stages.Complete bytes) = refl
  stage_task_same n source target (stages.Ready state bytes) = refl
  stage_task_same n source target stages.Decoding = refl

  pub task_seen : (o : Option (PendingFrame (Arc S Z))) → option_map handed_as (task_in o) ≡ option_map task_handed (task_in (option_map frame_unshared o))
  task_seen None = refl
  task_seen (Some p) = stage_task_same p.number p.source p.target p.stage

  whole_same : (stage : Stage (Arc S Z)) → is_whole (stage_unshared stage) ≡ is_whole stage
  whole_same (stages.Complete bytes) = refl
  whole_same (stages.Ready source bytes) = refl
  whole_same stages.Decoding = refl

  pub wanting_seen : (name : List ℕ) (xs : List (PendingFrame (Arc S Z))) → wanting name (map frame_unshared xs) ≡ wanting name xs
  wanting_seen name [] = refl
  wanting_seen name (x ∷ xs) = rw (whole_same x.stage, wanting_seen name xs) refl
