-- What was sent can be spelled, and is read as it was.
use Rattle.std.proofs.Common.{◌≡◌, ℕ, ◌+◌, ◌*◌, ◌^◌, ◌<◌, ◌≤◌, List, [], ◌∷◌, length, Ok, refl, ap, sym, ◌∙◌, subst, arith}
use Rattle.sal_base.specs.Lists.{Has, Each}
use Rattle.sal_base.specs.declared.picture.Picture.{Picture}
use Rattle.sal_codec.specs.Coding.{Coding, Made, made_of, name_of, IsLawful}
use Rattle.sal_wire.specs.Fields.{FragmentFields}
use Rattle.sal_wire.specs.Message.{FragmentMessage}
use Rattle.sal_wire.specs.Fragmentation.{fragment_count, fragment_data}
use Rattle.sal_wire.specs.Layout.{fragment_bytes, name_bytes, IsWireName, FitsFragment, IsFragment}
use Rattle.sal_wire.specs.Parsing.{parsed}
use Rattle.sal_wire.proofs.Again.{fragment_again}
use Rattle.sal_sender.specs.declared.choice.Choice.{Choice}
use Rattle.sal_sender.specs.Past.{Past, choices, pictures}
use Rattle.sal_chain.specs.Held.{name_in}
use Rattle.sal_sender.specs.Chain.{picture_at, state, made}
use Rattle.sal_sender.specs.OneThread.{Session, one_thread}
use Rattle.sal_sender.specs.Promises.{IsLegalSender}
use Rattle.sal_sender.specs.Sound.{AreChained}
use Rattle.sal_sender.proofs.Thread.{ArePicturesOf, thread_of_legal}
use Rattle.sal_sender.proofs.Sound.{chained_of_legal}
use Rattle.sal_world.specs.Promises.{IsSession, HasSize}
use Rattle.sal_world.proofs.Framed.{AreMade, made_of_legal, limited}
use Rattle.sal_world.proofs.Numbers.{IsSent, IsPiece, sent_number, sent_piece, longer_thread}
use Rattle.sal_world.proofs.Cut.{piece_some, piece_short, piece_whole}
use Rattle.sal_world.proofs.ListLemmas.{some_same}

-- eight bytes and eight zeros are sent whole
pub name_sent : (digest : List ℕ) → length digest ≡ 32 → IsWireName (name_of digest)
unfolding name_bytes
name_sent [] e = absurd (omega arith)
name_sent (a ∷ []) e = absurd (omega arith)
name_sent (a ∷ b ∷ []) e = absurd (omega arith)
name_sent (a ∷ b ∷ c ∷ []) e = absurd (omega arith)
name_sent (a ∷ b ∷ c ∷ d ∷ []) e = absurd (omega arith)
name_sent (a ∷ b ∷ c ∷ d ∷ f ∷ []) e = absurd (omega arith)
name_sent (a ∷ b ∷ c ∷ d ∷ f ∷ g ∷ []) e = absurd (omega arith)
name_sent (a ∷ b ∷ c ∷ d ∷ f ∷ g ∷ h ∷ []) e = absurd (omega arith)
name_sent (a ∷ b ∷ c ∷ d ∷ f ∷ g ∷ h ∷ i ∷ more) e = refl

module _ {S : Type 0} (codec : Coding S) (session : Session) where
  -- pictures and choices of a session
  pub record IsGiven (shot : List Picture) (chosen : List Choice) : Type 0 where
    pub law : IsLawful codec
    pub session_is : IsSession session
    pub sizes : Each (HasSize session) shot
    pub chained : AreChained chosen
    pub all_made : AreMade codec shot chosen
    pub pictures_of : ArePicturesOf (length shot) chosen
    pub few : length chosen ≤ 1048575

  pub given_of_legal : IsLawful codec → IsSession session → (past : Past) → IsLegalSender codec session past → Each (HasSize session) (pictures past) → IsGiven (pictures past) (choices past)
  given_of_legal law ok past legal sizes =
      let c = limited codec session past legal in
      record {
        law = law;
        session_is = ok;
        sizes = sizes;
        chained = chained_of_legal codec session past legal;
        all_made = made_of_legal codec session past legal;
        pictures_of = (thread_of_legal codec session past legal).shot;
        few = omega (arith, c.chosen, c.pictures);
      }

  pub number_sent : (shot : List Picture) (chosen : List Choice) → IsGiven shot chosen → (n : ℕ) → 1 ≤ n → n ≤ length chosen → IsSent codec session shot chosen n
  number_sent shot chosen g n low high = sent_number codec session g.law shot g.sizes chosen g.chained g.all_made g.pictures_of n low high

  -- no more than 4,096 fragments for each choice
  thread_long : (shot : List Picture) (chosen : List Choice) → AreMade codec shot chosen → length (one_thread codec session shot chosen) ≤ 4096 * length chosen
  unfolding one_thread
  thread_long shot [] all = omega arith
  thread_long shot (choice ∷ older) all =
      let more : length (one_thread codec session shot older) ≤ 4096 * length older = thread_long shot older all.1 in
      let long = longer_thread codec session shot choice older in
      let same : made codec shot older choice ≡ record { bytes = all.0.encoded.bytes; target = all.0.encoded.target; recon = all.0.encoded.recon } = ap (λ x. made_of (state codec shot older choice.source) (picture_at shot choice.picture) x) all.0.encoded.is in
      let count : fragment_count (made codec shot older choice).bytes ≡ fragment_count all.0.encoded.bytes = ap (λ (m : Made S). fragment_count m.bytes) same in
      let few : fragment_count all.0.encoded.bytes ≤ 4096 = all.0.encoded.few in
      omega arith

  pub serial_fits : (shot : List Picture) (chosen : List Choice) → IsGiven shot chosen → length (one_thread codec session shot chosen) < 2 ^ 32
  serial_fits shot chosen g = let l = thread_long shot chosen g.all_made in let few : length chosen ≤ 1048575 = g.few in omega arith

  name_is_sent : IsLawful codec → (s : S) (name : List ℕ) → name ≡ name_in codec s → IsWireName name
  name_is_sent law s name e = subst IsWireName (sym e) (name_sent (codec.digest s) (law.digest_size s))

  -- each fragment that was sent has its number's choice and frame
  pub record IsPart (shot : List Picture) (chosen : List Choice) (e : FragmentFields) : Type 0 where
    pub piece : IsPiece codec session shot chosen e
    pub sent : IsSent codec session shot chosen e.number
    pub choice_is : piece.choice ≡ sent.choice
    pub made_is : piece.made ≡ sent.made

  pub part_of : (shot : List Picture) (chosen : List Choice) → IsGiven shot chosen → (e : FragmentFields) → Has (one_thread codec session shot chosen) e → IsPart shot chosen e
  part_of shot chosen g e has =
      let p : IsPiece codec session shot chosen e = sent_piece codec session shot chosen g.chained e has in
      let s : IsSent codec session shot chosen e.number = number_sent shot chosen g e.number p.some p.among in
      record { piece = p; sent = s; choice_is = some_same p.choice s.choice (sym p.found ∙ s.found); made_is = some_same p.made s.made (sym p.is_made ∙ s.is_made) }

  part_fits : (shot : List Picture) (chosen : List Choice) → IsGiven shot chosen → (e : FragmentFields) → IsPart shot chosen e → FitsFragment e
  part_fits shot chosen g e p =
      let few : length chosen ≤ 1048575 = g.few in
      let low : e.number ≤ length chosen = p.piece.among in
      let floor : e.floor ≡ p.sent.choice.floor = p.piece.floor ∙ ap (λ (c : Choice). c.floor) p.choice_is in
      let count : e.count ≡ fragment_count p.sent.made.bytes = p.piece.count ∙ ap (λ (m : Made S). fragment_count m.bytes) p.made_is in
      let some : fragment_count p.sent.made.bytes ≤ 4096 = p.sent.few in
      let sides = g.session_is.head.sides in
      record {
        session = omega (arith, p.piece.own, g.session_is.number);
        serial = omega (arith, p.piece.serial_below, serial_fits shot chosen g);
        number = omega arith;
        floor = omega (arith, p.sent.floor_below);
        index = omega (arith, p.piece.index);
        count = omega arith;
        pause = omega (arith, p.piece.pause);
        width = omega (arith, p.piece.width, sides.not_wider);
        height = omega (arith, p.piece.height, sides.not_higher);
        pictures = subst (λ (r : ℕ × ℕ). r.0 < 2 ^ 32) (sym p.piece.rate) g.session_is.pictures;
        seconds = subst (λ (r : ℕ × ℕ). r.1 < 2 ^ 32) (sym p.piece.rate) g.session_is.seconds;
      }

  part_is : (shot : List Picture) (chosen : List Choice) → IsGiven shot chosen → (e : FragmentFields) → IsPart shot chosen e → IsFragment e
  part_is shot chosen g e p =
      let few : length chosen ≤ 1048575 = g.few in
      let low : e.number ≤ length chosen = p.piece.among in
      let floor : e.floor ≡ p.sent.choice.floor = p.piece.floor ∙ ap (λ (c : Choice). c.floor) p.choice_is in
      let m : List ℕ = p.sent.made.bytes in
      let count : e.count ≡ fragment_count m = p.piece.count ∙ ap (λ (x : Made S). fragment_count x.bytes) p.made_is in
      let bytes : e.bytes ≡ fragment_data m e.index = p.piece.bytes ∙ ap (λ (x : Made S). fragment_data x.bytes e.index) p.made_is in
      let long : length e.bytes ≡ length (fragment_data m e.index) = ap (λ (x : List ℕ). length x) bytes in
      let below : e.index < fragment_count m = omega (arith, p.piece.index, count) in
      let some : fragment_count m ≤ 4096 = p.sent.few in
      let filled : 0 < length m = p.sent.frame.some in
      let sides = g.session_is.head.sides in
      record {
        serial = p.piece.serial;
        number = p.piece.some;
        number_below = omega arith;
        floor = omega (arith, p.sent.floor);
        floor_below = omega (arith, p.sent.floor_below);
        window = omega (arith, p.sent.window);
        source = name_is_sent g.law (state codec shot chosen p.piece.choice.source) e.source p.piece.source;
        target = name_is_sent g.law p.piece.made.target e.target p.piece.target;
        count = omega arith;
        count_below = omega arith;
        index = p.piece.index;
        wide = omega (arith, p.piece.width, sides.wide);
        not_wider = omega (arith, p.piece.width, sides.not_wider);
        high = omega (arith, p.piece.height, sides.high);
        not_higher = omega (arith, p.piece.height, sides.not_higher);
        pictures = subst (λ (r : ℕ × ℕ). 1 ≤ r.0) (sym p.piece.rate) g.session_is.head.pictures;
        seconds = subst (λ (r : ℕ × ℕ). 1 ≤ r.1) (sym p.piece.rate) g.session_is.head.seconds;
        some = (let l = piece_some m e.index below in omega arith);
        short = (let l = piece_short m e.index in omega arith);
        whole = λ (q : e.index + 1 < e.count). long ∙ piece_whole m e.index (omega arith);
      }

  -- a fragment that was sent is read as it was
  pub came_text : (shot : List Picture) (chosen : List Choice) → IsGiven shot chosen → (e : FragmentFields) → IsPart shot chosen e → parsed (fragment_bytes e) ≡ Ok (FragmentMessage e)
  came_text shot chosen g e p = fragment_again e (part_fits shot chosen g e p) (part_is shot chosen g e p)

  -- its number stands at most 15 above its floor
  pub part_near : (shot : List Picture) (chosen : List Choice) (e : FragmentFields) → IsPart shot chosen e → e.number ≤ e.floor + 15
  part_near shot chosen e p =
      let floor : e.floor ≡ p.sent.choice.floor = p.piece.floor ∙ ap (λ (c : Choice). c.floor) p.choice_is in
      omega (arith, p.sent.window)
