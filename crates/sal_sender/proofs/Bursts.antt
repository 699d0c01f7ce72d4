-- A frame as datagrams.
use Rattle.std.proofs.Common.{◌≡◌, ℕ, suc, ◌+◌, ◌-◌, ◌*◌, ◌/◌, ◌<◌, ◌≤◌, min, List, [], ◌∷◌, ◌++◌, length, map, take, drop, ap, sym, ◌∙◌, subst, arith}
use Rattle.std.proofs.lemmas.List.{length-take, length-drop, map-append, take_rest, take_min}
use Rattle.sal_wire.specs.Fragmentation.{below, fragment_count, fragment_data}
use Rattle.sal_wire.specs.Layout.{IsFragment, fragment_bytes}
use Rattle.sal_sender.specs.declared.outgoing_frame.OutgoingFrame.{OutgoingFrame}
use Rattle.sal_sender.specs.Packetizing.{fragment_of, datagrams_of, IsOutgoing}

-- the length of a piece
piece_long : (bytes : List ℕ) (k : ℕ) → length (fragment_data bytes k) ≡ min 1200 (length bytes - 1200 * k)
piece_long bytes k = length-take 1200 (drop (1200 * k) bytes) ∙ ap (min 1200) (length-drop (1200 * k) bytes)

pub piece_within : (n k : ℕ) → k < (n + 1199) / 1200 → 1200 * k < n
piece_within n k h = omega (arith, h)

piece_whole : (bytes : List ℕ) (k : ℕ) → k + 1 < fragment_count bytes → length (fragment_data bytes k) ≡ min 1200 (length bytes - 1200 * k) → length (fragment_data bytes k) ≡ 1200
piece_whole bytes k h long = omega (arith, h, long)

-- a part meets the rules of fragments
meets : (outgoing : OutgoingFrame) (k pause : ℕ) → IsOutgoing outgoing → k < outgoing.choice.count → IsFragment (record (fragment_of outgoing k) { pause = pause })
meets outgoing k pause c low =
    let long = piece_long outgoing.bytes.now k in
    let within : 1200 * k < length outgoing.bytes.now = piece_within (length outgoing.bytes.now) k (subst (λ n. k < n) c.count low) in
    record {
      serial = omega (arith, c.serial);
      number = c.number;
      number_below = c.number_below;
      floor = c.floor;
      floor_below = c.floor_below;
      window = omega (arith, c.window);
      source = c.source;
      target = c.target;
      count = omega (arith, low);
      count_below = c.count_below;
      index = low;
      wide = c.head.sides.wide;
      not_wider = c.head.sides.not_wider;
      high = c.head.sides.high;
      not_higher = c.head.sides.not_higher;
      pictures = c.head.pictures;
      seconds = c.head.seconds;
      some = omega (arith, long, within);
      short = omega (arith, long);
      whole = λ h. piece_whole outgoing.bytes.now k (subst (λ n. k + 1 < n) c.count h) long;
    }

-- also with the piece and the pause as they are computed
pub part_meets : (outgoing : OutgoingFrame) (k pause : ℕ) (own : List ℕ) → IsOutgoing outgoing → k < outgoing.choice.count → own ≡ fragment_data outgoing.bytes.now k → IsFragment (record (fragment_of outgoing k) { pause = pause; bytes = own })
part_meets outgoing k pause own c low is = subst (λ d. IsFragment (record (fragment_of outgoing k) { pause = pause; bytes = d })) (sym is) (meets outgoing k pause c low)

-- a piece by its bounds
pub piece_cut : (bytes : List ℕ) (k n : ℕ) → n ≡ min 1200 (length (take (length bytes - 1200 * k) (drop (1200 * k) bytes))) → take n (take (length bytes - 1200 * k) (drop (1200 * k) bytes)) ≡ fragment_data bytes k
piece_cut bytes k n h = rw (h, take_rest bytes (1200 * k)) (take_min 1200 (drop (1200 * k) bytes))

-- one datagram more
more_parts : (outgoing : OutgoingFrame) (n : ℕ) → datagrams_of outgoing (suc n) ≡ datagrams_of outgoing n ++ fragment_bytes (fragment_of outgoing n) ∷ []
unfolding below
more_parts outgoing n = ap (map fragment_bytes) (map-append (fragment_of outgoing) (below n) (n ∷ [])) ∙ map-append fragment_bytes (map (fragment_of outgoing) (below n)) (fragment_of outgoing n ∷ [])

pub part_more : (outgoing : OutgoingFrame) (n : ℕ) (b : List ℕ) (xs ys : List (List ℕ)) → ys ≡ xs ++ b ∷ [] → xs ≡ datagrams_of outgoing n → b ≡ fragment_bytes (fragment_of outgoing n) → ys ≡ datagrams_of outgoing (n + 1)
part_more outgoing n b xs ys more h e =
    let one : suc n ≡ n + 1 = omega arith in
    rw (more, h, e) (sym (more_parts outgoing n) ∙ ap (datagrams_of outgoing) one)

pub no_parts : (outgoing : OutgoingFrame) (xs : List (List ℕ)) → xs ≡ [] → xs ≡ datagrams_of outgoing 0
unfolding below
no_parts outgoing xs h = h

pub all_parts : (outgoing : OutgoingFrame) (n count : ℕ) (xs : List (List ℕ)) → n ≤ count → count ≤ n → xs ≡ datagrams_of outgoing n → xs ≡ datagrams_of outgoing count
all_parts outgoing n count xs low high h = let same : n ≡ count = omega (arith, low, high) in h ∙ ap (datagrams_of outgoing) same
