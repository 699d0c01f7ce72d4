-- A world stands for one more call of either end.
use Rattle.std.proofs.Common.{◌≡◌, ℕ, zero, suc, List, [], ◌∷◌, ◌++◌, length, map, refl, ap, sym, ◌∙◌, subst}
use Rattle.std.proofs.lemmas.List.{append-nil}
use Rattle.std.specs.Option.{option_map}
use Rattle.std.specs.Prelude.{slice_get}
use Rattle.sal_codec.specs.Coding.{Coding}
use Rattle.sal_wire.specs.declared.datagram.Ack.{Ack}
use Rattle.sal_wire.specs.Layout.{ack_bytes}
use Rattle.sal_sender.specs.Machine.{Machine}
use Rattle.sal_sender.specs.Past.{burst_in, datagrams}
use Rattle.sal_sender.specs.Past.{SenderCall}
use Rattle.sal_sender.specs.OneThread.{Session}
use Rattle.sal_sender.specs.Stands.{SenderStands}
use Rattle.sal_receiver.specs.Past.{ReceiverCall}
use Rattle.sal_receiver.specs.Machine.{ReceiverState}
use Rattle.sal_receiver.specs.Machine.{ReceiverStands}
use Rattle.sal_world.specs.World.{WorldPast, acks_of, ack_in, at_number, after}
use Rattle.sal_world.specs.WorldParts.{WorldParts}
use Rattle.sal_world.specs.Promises.{IsSession}
use Rattle.sal_world.specs.Stands.{IsWorld, Stands}

map_append : {X Y : Type 0} (f : X → Y) (xs ys : List X) → map f (xs ++ ys) ≡ map f xs ++ map f ys
map_append f [] ys = refl
map_append f (x ∷ xs) ys = ap (λ zs. f x ∷ zs) (map_append f xs ys)

pub map_length : {X Y : Type 0} (f : X → Y) (xs : List X) → length (map f xs) ≡ length xs
map_length f [] = refl
map_length f (x ∷ xs) = ap (λ n. suc n) (map_length f xs)

got_mapped : {X Y : Type 0} (f : X → Y) (xs : List X) (k : ℕ) → slice_get (map f xs) k ≡ option_map f (slice_get xs k)
got_mapped f [] k = refl
got_mapped f (x ∷ xs) zero = refl
got_mapped f (x ∷ xs) (suc k) = got_mapped f xs k

-- a member of a list of values is the value of a member
pub member_mapped : {X Y : Type 0} (f : X → Y) (xs : List X) (k : ℕ) → at_number (map f xs) k ≡ option_map f (at_number xs k)
member_mapped f xs zero = refl
member_mapped f xs (suc k) = got_mapped f xs k

module _ {S : Type 0} (codec : Coding S) (session : Session) where
  -- what is kept inside is what is seen
  pub opened : (x b : WorldParts S) (w : WorldPast S) → x ≡ b → IsWorld codec session b w → IsWorld codec session x w
  opened x b w view is = subst (λ v. IsWorld codec session v w) (sym view) is

  -- the sender was called, and sent nothing
  pub sender_called : (x : WorldParts S) (m : Machine S) (w : WorldPast S) (call : SenderCall) → IsWorld codec session x w → SenderStands codec m (call ∷ w.sender) → m.session ≡ x.sender.session → burst_in call ≡ [] → IsWorld codec session (record x { sender = m }) (record w { sender = call ∷ w.sender })
  sender_called x m w call is stands same none = record {
    session_is = same ∙ is.session_is;
    sender = stands;
    receiver = is.receiver;
    sent_are = is.sent_are ∙ (sym (append-nil (datagrams w.sender)) ∙ ap (λ b. datagrams w.sender ++ b) (sym none));
    acks_are = is.acks_are;
    moment_is = is.moment_is;
  }

  -- the receiver was called, and what it acknowledged was added
  pub receiver_called : (x : WorldParts S) (r : ReceiverState S) (texts : List (List ℕ)) (w : WorldPast S) (call : ReceiverCall S) → IsWorld codec session x w → ReceiverStands codec r (call ∷ w.receiver) → texts ≡ x.acks ++ map ack_bytes (ack_in call) → IsWorld codec session (record x { receiver = r; acks = texts }) (record w { receiver = call ∷ w.receiver })
  receiver_called x r texts w call is stands more = record {
    session_is = is.session_is;
    sender = is.sender;
    receiver = stands;
    sent_are = is.sent_are;
    acks_are = more ∙ (ap (λ (ts : List (List ℕ)). ts ++ map ack_bytes (ack_in call)) is.acks_are ∙ sym (map_append ack_bytes (acks_of w.receiver) (ack_in call)));
    moment_is = is.moment_is;
  }

  -- the receiver was called, and acknowledged nothing
  pub receiver_quiet : (x : WorldParts S) (r : ReceiverState S) (w : WorldPast S) (call : ReceiverCall S) → IsWorld codec session x w → ReceiverStands codec r (call ∷ w.receiver) → ack_in call ≡ [] → IsWorld codec session (record x { receiver = r }) (record w { receiver = call ∷ w.receiver })
  receiver_quiet x r w call is stands none =
      receiver_called x r x.acks w call is stands (sym (append-nil x.acks) ∙ ap (λ (new : List Ack). x.acks ++ map ack_bytes new) (sym none))

  -- a world in which nothing happened stands for no events
  pub stands_new : (b : WorldParts S) → IsSession session → b.sender.session ≡ session → SenderStands codec b.sender [] → ReceiverStands codec b.receiver [] → b.sent ≡ [] → b.acks ≡ [] → b.moment ≡ 0 → Stands codec session b []
  unfolding after
  stands_new b ok own sender receiver sent_none acks_none first = record {
    session_is = ok;
    sizes = tt;
    world = record { session_is = own; sender = sender; receiver = receiver; sent_are = sent_none; acks_are = acks_none; moment_is = first };
  }
