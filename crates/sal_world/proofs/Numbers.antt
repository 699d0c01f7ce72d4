-- What is known of each number that was chosen.
use Rattle.std.proofs.Common.{◌≡◌, ◌≢◌, ℕ, zero, suc, ◌+◌, ◌-◌, ◌<◌, ◌≤◌, Bool, true, false, cond, List, [], ◌∷◌, length, Option, Some, Ok, refl, ap, sym, ◌∙◌, subst, arith, eqb, inl, inr}
use Rattle.std.proofs.lemmas.Bool.{eqb-true, eqb-false, eq-eqb, ne_eqb}
use Rattle.std.specs.Prelude.{slice_get}
use Rattle.sal_base.specs.Lists.{Has, Each}
use Rattle.sal_base.specs.declared.picture.Picture.{Picture}
use Rattle.sal_base.specs.declared.coding.Kind.{Kind}
use Rattle.sal_base.specs.declared.coding.Kind.TheVariants.{Key, Inter}
use Rattle.sal_codec.specs.Coding.{Coding, Made, made_of, IsFrame, HasSides, IsSound, IsLawful}
use Rattle.sal_wire.specs.Fields.{FragmentFields}
use Rattle.sal_wire.specs.Fragmentation.{fragment_count, fragment_data, below}
use Rattle.sal_sender.specs.declared.choice.Choice.{Choice}
use Rattle.sal_sender.specs.Past.{floor_of}
use Rattle.sal_chain.specs.Held.{name_in}
use Rattle.sal_sender.specs.Chain.{picture_at, target_of, made_at, state, made}
use Rattle.sal_sender.specs.OneThread.{Session, one_thread, burst_after, fragment, pause_of}
use Rattle.sal_sender.specs.Jobs.{kind_of}
use Rattle.sal_sender.specs.Sound.{AreChained}
use Rattle.sal_sender.proofs.Thread.{ArePicturesOf}
use Rattle.sal_sender.proofs.Older.{made_older, state_older}
use Rattle.sal_sender.proofs.Sound.{floor_low}
use Rattle.sal_world.specs.Promises.{HasSize, choice_at}
use Rattle.sal_world.proofs.ListLemmas.{has_either, has_mapped, below_has, length_below}
use Rattle.std.proofs.lemmas.List.{length-append, length-map}
use Rattle.sal_world.proofs.Framed.{IsEncoded, AreMade}

first : {X : Type 0} (b : Bool) (x y : X) → b ≡ true → (elim b as (λ c. X) [ true ↦ x | false ↦ y ]) ≡ x
first true x y h = refl
first false x y h = absurd (cc)

first_cond : {X : Type 0} (b : Bool) (x y : X) → b ≡ true → cond b x y ≡ x
first_cond true x y h = refl
first_cond false x y h = absurd (cc)

second_cond : {X : Type 0} (b : Bool) (x y : X) → b ≡ false → cond b x y ≡ y
second_cond true x y h = absurd (cc)
second_cond false x y h = refl

pub choice_here : (choice : Choice) (older : List Choice) (n : ℕ) → choice.number ≡ n → choice_at (choice ∷ older) n ≡ Some choice
choice_here choice older n e = first_cond (eqb choice.number n) _ _ (eq-eqb _ _ e)

pub choice_older : (choice : Choice) (older : List Choice) (n : ℕ) → AreChained (choice ∷ older) → n ≤ length older → choice_at (choice ∷ older) n ≡ choice_at older n
choice_older choice older n chained low = second_cond (eqb choice.number n) _ _ (ne_eqb choice.number n (λ (e : choice.number ≡ n). omega (arith, chained.0.number)))

pub floor_some : (chosen : List Choice) → AreChained chosen → 1 ≤ floor_of chosen
floor_some [] chained = omega arith
floor_some (choice ∷ older) chained = let low : 1 ≤ floor_of older = floor_some older chained.1 in omega (arith, chained.0.rising)

-- no choice's floor is above the newest one's
pub floor_high : (chosen : List Choice) (n : ℕ) (c : Choice) → AreChained chosen → choice_at chosen n ≡ Some c → c.floor ≤ floor_of chosen
floor_high [] n c chained e = absurd (cc)
floor_high (x ∷ xs) n c chained e = step (eqb x.number n) e (floor_high xs n c chained.1)
  where
    step : (b : Bool) → cond b (Some x) (choice_at xs n) ≡ Some c → (choice_at xs n ≡ Some c → c.floor ≤ floor_of xs) → c.floor ≤ x.floor
    step true h more = let same : x ≡ c = cc in let own : x.floor ≡ c.floor = ap (λ (d : Choice). d.floor) same in omega arith
    step false h more = let low : c.floor ≤ floor_of xs = more h in omega (arith, chained.0.rising)

or_none_has : (P : Picture → Type 0) (xs : List Picture) (k : ℕ) → k < length xs → Each P xs → P (picture_at xs (k + 1))
or_none_has P xs k low each = go xs k low each (omega arith)
  where
    at : (xs : List Picture) (k : ℕ) → k < length xs → Each P xs → (o : Option Picture) → slice_get xs k ≡ o → (p : Picture) × (o ≡ Some p) × P p
    at [] k low each o e = absurd (omega arith)
    at (x ∷ xs) zero low each o e = (x, sym e, each.0)
    at (x ∷ xs) (suc k) low each o e = at xs k (omega arith) each.1 o e

    go : (xs : List Picture) (k : ℕ) → k < length xs → Each P xs → (k + 1) - 1 ≡ k → P (picture_at xs (k + 1))
    go xs k low each e = let a = at xs k low each (slice_get xs k) refl in rw (e, a.1) a.2

-- a picture by its number is one of them
pub picture_has : (P : Picture → Type 0) (shot : List Picture) (n : ℕ) → 1 ≤ n → n ≤ length shot → Each P shot → P (picture_at shot n)
picture_has P shot n low high each = let e : (n - 1) + 1 ≡ n = omega arith in subst (λ (k : ℕ). P (picture_at shot k)) e (or_none_has P shot (n - 1) (omega arith) each)

module _ {S : Type 0} (codec : Coding S) where
  made_here : (shot : List Picture) (choice : Choice) (older : List Choice) (n : ℕ) → n ≡ choice.number → made_at codec shot (choice ∷ older) n ≡ Some (made codec shot older choice)
  unfolding made_at
  made_here shot choice older n e = first (eqb n choice.number) _ _ (eq-eqb _ _ e)

  pub of_made : (shot : List Picture) (chosen : List Choice) (n : ℕ) (m : Made S) → made_at codec shot chosen n ≡ Some m → state codec shot chosen n ≡ m.target
  of_made shot chosen n m e = ap (target_of codec) e

source_step : (b : Bool) (x c : Choice) (xs : List Choice) → AreChained (x ∷ xs) → (o : Option Choice) → (o ≡ Some c → c.source ≤ length xs) → cond b (Some x) o ≡ Some c → c.source ≤ length (x ∷ xs)
source_step true x c xs chained o more h = let same : x ≡ c = cc in let own : x.source ≡ c.source = ap (λ (d : Choice). d.source) same in omega (arith, chained.0.source)
source_step false x c xs chained o more h = let low : c.source ≤ length xs = more h in omega arith

pub older_source : (chosen : List Choice) (n : ℕ) (c : Choice) → AreChained chosen → choice_at chosen n ≡ Some c → c.source ≤ length chosen
older_source [] n c chained e = absurd (cc)
older_source (x ∷ xs) n c chained e = source_step (eqb x.number n) x c xs chained (choice_at xs n) (older_source xs n c chained.1) e

module _ {S : Type 0} (codec : Coding S) (session : Session) where
  -- a number that was sent: its choice, from an older source, and its frame
  pub record IsSent (shot : List Picture) (chosen : List Choice) (n : ℕ) : Type 0 where
    pub choice : Choice
    pub found : choice_at chosen n ≡ Some choice
    pub number : choice.number ≡ n
    pub source : choice.source < n
    pub floor : 1 ≤ choice.floor
    pub floor_below : choice.floor ≤ n
    pub window : n ≤ choice.floor + 15
    pub made : Made S
    pub is_made : made_at codec shot chosen n ≡ Some made
    pub few : fragment_count made.bytes ≤ 4096
    pub frame : IsFrame made.bytes
    pub shown : Bool
    pub decodes : codec.decode (state codec shot chosen choice.source) made.bytes ≡ Ok (record { state = made.target; picture = made.recon; shown = shown })
    pub takes : codec.takes made.target session.head.width session.head.height
    pub sides : HasSides session.head.width session.head.height made.recon

  older_sent : (shot : List Picture) (choice : Choice) (older : List Choice) (n : ℕ) → AreChained (choice ∷ older) → n ≤ length older → IsSent shot older n → IsSent shot (choice ∷ older) n
  older_sent shot choice older n chained low is = record {
    choice = is.choice;
    found = choice_older choice older n chained low ∙ is.found;
    number = is.number;
    source = is.source;
    floor = is.floor;
    floor_below = is.floor_below;
    window = is.window;
    made = is.made;
    is_made = made_older codec shot choice older n chained low ∙ is.is_made;
    few = is.few;
    frame = is.frame;
    shown = is.shown;
    decodes = subst (λ s. codec.decode s is.made.bytes ≡ Ok (record { state = is.made.target; picture = is.made.recon; shown = is.shown })) (sym (state_older codec shot choice older is.choice.source chained (omega (arith, is.source)))) is.decodes;
    takes = is.takes;
    sides = is.sides;
  }

  inter_some : (source : ℕ) (kind : Kind) → kind ≡ kind_of source → kind ≡ Inter → 1 ≤ source
  inter_some source kind a b = step (eqb source 0) refl (sym b ∙ a)
    where
      step : (t : Bool) → eqb source 0 ≡ t → Inter ≡ cond t Key Inter → 1 ≤ source
      step true e h = absurd (cc)
      step false e h = let other : source ≢ 0 = eqb-false _ _ e in omega (arith, other)

  takes_size : (s : S) (p : Picture) → HasSize session p → codec.takes s session.head.width session.head.height → codec.takes s p.width p.height
  takes_size s p size takes = subst (λ w. codec.takes s w p.height) (sym size.width) (subst (λ h. codec.takes s session.head.width h) (sym size.height) takes)

  -- what is made of a choice whose source is known
  made_sound : IsLawful codec → (s : S) (p : Picture) (q : ℕ) (kind : Kind) (count : ℕ) (e : IsEncoded (codec.encode s p q kind) count) → HasSize session p → q ≤ 127 → (kind ≡ Inter → codec.takes s session.head.width session.head.height) → IsSound codec s p e.bytes e.target e.recon
  made_sound law s p q kind count e size low inter = law.sound s p q kind e.bytes e.target e.recon (record { picture = size.whole; quantiser = low; size = λ is. takes_size s p size (inter is) }) e.is

  newest_sent : IsLawful codec → (shot : List Picture) (choice : Choice) (older : List Choice) (n : ℕ) → Each (HasSize session) shot → AreChained (choice ∷ older) → AreMade codec shot (choice ∷ older) → ArePicturesOf (length shot) (choice ∷ older) → ((m : ℕ) → 1 ≤ m → m ≤ length older → IsSent shot older m) → n ≡ choice.number → IsSent shot (choice ∷ older) n
  newest_sent law shot choice older n sizes chained made of more e =
      let s : S = state codec shot older choice.source in
      let p : Picture = picture_at shot choice.picture in
      let size : HasSize session p = picture_has (HasSize session) shot choice.picture of.0 of.1 sizes in
      let enc = made.0.encoded in
      let sound : IsSound codec s p enc.bytes enc.target enc.recon = made_sound law s p choice.q choice.kind choice.count enc size made.0.q
      (λ (is : choice.kind ≡ Inter).
      let low : 1 ≤ choice.source = inter_some choice.source choice.kind made.0.kind is in
      let there : IsSent shot older choice.source = more choice.source low chained.0.source in
      subst (λ x. codec.takes x session.head.width session.head.height) (sym (of_made codec shot older choice.source there.made there.is_made)) there.takes) in
      let same : s ≡ state codec shot (choice ∷ older) choice.source = sym (state_older codec shot choice older choice.source chained chained.0.source) in
      record {
        choice = choice;
        found = choice_here choice older n (sym e);
        number = sym e;
        source = omega (arith, chained.0.source, chained.0.number);
        floor = floor_some (choice ∷ older) chained;
        floor_below = (let f : choice.floor ≤ choice.number = floor_low choice older chained.0 in omega arith);
        window = omega (arith, chained.0.window);
        made = record { bytes = enc.bytes; target = enc.target; recon = enc.recon };
        is_made = made_here codec shot choice older n e ∙ ap (λ x. Some (made_of s p x)) enc.is;
        few = enc.few;
        frame = sound.frame;
        shown = sound.decodes.0;
        decodes = subst (λ x. codec.decode x enc.bytes ≡ Ok (record { state = enc.target; picture = enc.recon; shown = sound.decodes.0 })) same sound.decodes.1;
        takes = subst (λ w. codec.takes enc.target w session.head.height) size.width (subst (λ h. codec.takes enc.target p.width h) size.height sound.takes);
        sides = record { whole = sound.sides.whole; width = sound.sides.width ∙ size.width; height = sound.sides.height ∙ size.height };
      }

  sent_step : IsLawful codec → (shot : List Picture) → Each (HasSize session) shot → (choice : Choice) (older : List Choice) → AreChained (choice ∷ older) → AreMade codec shot (choice ∷ older) → ArePicturesOf (length shot) (choice ∷ older) → (n : ℕ) → 1 ≤ n → n ≤ length (choice ∷ older) → ((m : ℕ) → 1 ≤ m → m ≤ length older → IsSent shot older m) → (b : Bool) → eqb n choice.number ≡ b → IsSent shot (choice ∷ older) n
  sent_step law shot sizes choice older chained all of n low high more true e = newest_sent law shot choice older n sizes chained all of more (eqb-true _ _ e)
  sent_step law shot sizes choice older chained all of n low high more false e =
      let other : n ≢ choice.number = eqb-false _ _ e in
      let less : n ≤ length older = omega (arith, chained.0.number, other) in
      older_sent shot choice older n chained less (more n low less)

  -- each number up to the tip was sent
  pub sent_number : IsLawful codec → (shot : List Picture) → Each (HasSize session) shot → (chosen : List Choice) → AreChained chosen → AreMade codec shot chosen → ArePicturesOf (length shot) chosen → (n : ℕ) → 1 ≤ n → n ≤ length chosen → IsSent shot chosen n
  sent_number law shot sizes [] chained all of n low high = absurd (omega arith)
  sent_number law shot sizes (choice ∷ older) chained all of n low high = sent_step law shot sizes choice older chained all of n low high (λ m a b. sent_number law shot sizes older chained.1 all.1 of.2 m a b) (eqb n choice.number) refl

  -- ---- fragments

  -- a fragment that was sent is a piece of the frame of its number
  pub record IsPiece (shot : List Picture) (chosen : List Choice) (e : FragmentFields) : Type 0 where
    pub some : 1 ≤ e.number
    pub among : e.number ≤ length chosen
    pub choice : Choice
    pub found : choice_at chosen e.number ≡ Some choice
    pub made : Made S
    pub is_made : made_at codec shot chosen e.number ≡ Some made
    pub source : e.source ≡ name_in codec (state codec shot chosen choice.source)
    pub target : e.target ≡ name_in codec made.target
    pub floor : e.floor ≡ choice.floor
    pub count : e.count ≡ fragment_count made.bytes
    pub index : e.index < e.count
    pub bytes : e.bytes ≡ fragment_data made.bytes e.index
    pub own : e.session ≡ session.number
    pub width : e.width ≡ session.head.width
    pub height : e.height ≡ session.head.height
    pub rate : e.rate ≡ session.head.rate
    pub serial : 1 ≤ e.serial
    pub serial_below : e.serial ≤ length (one_thread codec session shot chosen)
    pub pause : e.pause ≤ 4294967295

  pub longer_thread : (shot : List Picture) (choice : Choice) (older : List Choice) → length (one_thread codec session shot (choice ∷ older)) ≡ length (one_thread codec session shot older) + fragment_count (made codec shot older choice).bytes
  unfolding one_thread
  longer_thread shot choice older =
      let before : List FragmentFields = one_thread codec session shot older in
      let own = length-append before (burst_after codec session shot older choice (length before)) in
      own ∙ ap (λ (n : ℕ). length before + n) (length-map (below (fragment_count (made codec shot older choice).bytes)) _ ∙ length_below _)

  older_piece : (shot : List Picture) (choice : Choice) (older : List Choice) (e : FragmentFields) → AreChained (choice ∷ older) → IsPiece shot older e → IsPiece shot (choice ∷ older) e
  older_piece shot choice older e chained is = record {
    some = is.some;
    among = omega (arith, is.among);
    choice = is.choice;
    found = choice_older choice older e.number chained is.among ∙ is.found;
    made = is.made;
    is_made = made_older codec shot choice older e.number chained is.among ∙ is.is_made;
    source = is.source ∙ ap (name_in codec) (sym (state_older codec shot choice older is.choice.source chained (older_source older e.number is.choice chained.1 is.found)));
    target = is.target;
    floor = is.floor;
    count = is.count;
    index = is.index;
    bytes = is.bytes;
    own = is.own;
    width = is.width;
    height = is.height;
    rate = is.rate;
    serial = is.serial;
    serial_below = (let l = longer_thread shot choice older in omega (arith, is.serial_below, l));
    pause = is.pause;
  }

  low_pause : (b : Bool) (n : ℕ) → n ≤ 4294967295 → cond b n 0 ≤ 4294967295
  low_pause true n h = h
  low_pause false n h = omega arith

  pause_low : (older : List Choice) (choice : Choice) → pause_of older choice ≤ 4294967295
  pause_low [] choice = omega arith
  pause_low (before ∷ older) choice = omega arith

  newest_piece : (shot : List Picture) (choice : Choice) (older : List Choice) (k : ℕ) → AreChained (choice ∷ older) → k < fragment_count (made codec shot older choice).bytes → IsPiece shot (choice ∷ older) (fragment codec session (state codec shot older choice.source) (pause_of older choice) choice (made codec shot older choice) (length (one_thread codec session shot older)) k)
  newest_piece shot choice older k chained low = record {
    some = omega (arith, chained.0.number);
    among = omega (arith, chained.0.number);
    choice = choice;
    found = choice_here choice older choice.number refl;
    made = made codec shot older choice;
    is_made = made_here codec shot choice older choice.number refl;
    source = ap (name_in codec) (sym (state_older codec shot choice older choice.source chained chained.0.source));
    target = refl;
    floor = refl;
    count = refl;
    index = low;
    bytes = refl;
    own = refl;
    width = refl;
    height = refl;
    rate = refl;
    serial = omega arith;
    serial_below = (let l = longer_thread shot choice older in omega (arith, l));
    pause = low_pause (eqb k 0) (pause_of older choice) (pause_low older choice);
  }

  -- each fragment that was sent is a piece
  pub sent_piece : (shot : List Picture) (chosen : List Choice) → AreChained chosen → (e : FragmentFields) → Has (one_thread codec session shot chosen) e → IsPiece shot chosen e
  unfolding one_thread
  sent_piece shot [] chained e has = absurd has
  sent_piece shot (choice ∷ older) chained e has = elim (has_either (one_thread codec session shot older) (burst_after codec session shot older choice (length (one_thread codec session shot older))) e has) [
    | inl a ↦ older_piece shot choice older e chained (sent_piece shot older chained.1 e a)
    | inr b ↦ burst_piece b
  ]
    where
      burst_piece : Has (burst_after codec session shot older choice (length (one_thread codec session shot older))) e → IsPiece shot (choice ∷ older) e
      burst_piece b =
          let k = has_mapped (fragment codec session (state codec shot older choice.source) (pause_of older choice) choice (made codec shot older choice) (length (one_thread codec session shot older))) (below (fragment_count (made codec shot older choice).bytes)) e b in
          subst (IsPiece shot (choice ∷ older)) (sym k.2) (newest_piece shot choice older k.0 chained (below_has _ k.0 k.1))
