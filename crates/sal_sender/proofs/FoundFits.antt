-- A candidate that is found fits.
use Rattle.std.proofs.Common.{◌≡◌, ℕ, ◌≤◌, Bool, true, false, cond, Option, Some, None, refl, subst, arith, ◌⊎◌, inl, inr}
use Rattle.std.proofs.lemmas.Bool.{le-leb, leb-true}
use Rattle.sal_codec.specs.Coding.{Coding}
use Rattle.sal_sender.specs.declared.choice.Size.{Size}
use Rattle.sal_sender.specs.declared.choice.Size.TheVariants.{Datagrams, Oversize, NoMemory}
use Rattle.sal_sender.specs.declared.open_picture.Candidate.{Candidate}
use Rattle.sal_sender.specs.declared.open_picture.OpenPicture.{OpenPicture}
use Rattle.sal_sender.specs.Choosing.{first_some}
use Rattle.sal_sender.specs.Selecting.{first_wanted, second_wanted, has_fit, size_in, fitting_in, found_in}
use Rattle.sal_sender.specs.JobWork.{JobReport}

-- what fits a budget fits a larger one
fit_more : (z : Option Size) (n m : ℕ) → n ≤ m → has_fit n z ≡ true → has_fit m z ≡ true
fit_more None n m low h = absurd (cc)
fit_more (Some (Datagrams k)) n m low h = le-leb k m (let p : k ≤ n = leb-true k n h in omega arith)
fit_more (Some (Oversize first)) n m low h = absurd (cc)
fit_more (Some NoMemory) n m low h = absurd (cc)

either_some : {X : Type 0} (a b : Option X) (x : X) → first_some a b ≡ Some x → (a ≡ Some x) ⊎ (b ≡ Some x)
either_some None b x h = inr h
either_some (Some y) b x h = inl h

module _ {S : Type 0} (codec : Coding S) where
  fitting_fits : (budget : ℕ) (o : Option (Candidate (JobReport S))) (s : Candidate (JobReport S)) → fitting_in codec budget o ≡ Some s → has_fit budget (size_in codec s) ≡ true
  fitting_fits budget None s h = absurd (cc)
  fitting_fits budget (Some x) s h = go (has_fit budget (size_in codec x)) h (λ e. e)
    where
      go : (b : Bool) → cond b (Some x) None ≡ Some s → (b ≡ true → has_fit budget (size_in codec x) ≡ true) → has_fit budget (size_in codec s) ≡ true
      go true q f = let own : x ≡ s = cc in subst (λ y. has_fit budget (size_in codec y) ≡ true) own (f refl)
      go false q f = absurd (cc)

  pub found_fits : (b : Bool) (budget most : ℕ) (o : OpenPicture (JobReport S)) (s : Candidate (JobReport S)) → budget ≤ most → found_in codec b budget o ≡ Some s → has_fit most (size_in codec s) ≡ true
  found_fits b budget most o s low h = fit_more (size_in codec s) budget most low (go (either_some (fitting_in codec budget (first_wanted b o)) (fitting_in codec budget (second_wanted b o)) s h))
    where
      go : (fitting_in codec budget (first_wanted b o) ≡ Some s) ⊎ (fitting_in codec budget (second_wanted b o) ≡ Some s) → has_fit budget (size_in codec s) ≡ true
      go (inl q) = fitting_fits budget (first_wanted b o) s q
      go (inr q) = fitting_fits budget (second_wanted b o) s q
