-- What a frame leads to, part by part.
use Rattle.std.proofs.Common.{◌≡◌, ◌∙◌, ◌*◌, ℕ, List, [], Bool, Option, Result, Ok, Err, IfOk, MatchResult, is_ok, true≢false, true, false, map, refl, sym, ap, subst}
use Rattle.sal_base.specs.declared.picture.Planes.{Planes}
use Rattle.sal_base.specs.declared.picture.Picture.{Picture}
use Rattle.sal_base.specs.declared.coding.Decoded.{Decoded}
use Rattle.sal_base.specs.declared.coding.Fault.{Fault}
use Rattle.sal_base.specs.declared.coding.Fault.TheVariants.{Short}
use Rattle.sal_base.specs.declared.coding.DecodeFault.{DecodeFault}
use Rattle.sal_base.specs.declared.coding.DecodeFault.TheVariants.{Bad, Memory}
use Rattle.sal_base.specs.Pictures.{blocks_of, cropped}
use Rattle.sal_bool.specs.Reading.{Reading}
use Rattle.sal_bool.specs.Syntax.{run}
use Rattle.sal_probs.specs.Probabilities.{Table, used}
use Rattle.sal_header.specs.declared.header.Header.{Header}
use Rattle.sal_macroblock.specs.declared.mode.MbMode.{MbMode}
use Rattle.sal_filter.specs.declared.head.MbInfo.{MbInfo}
use Rattle.sal_filter.specs.Filtered.{filtered}
use Rattle.sal_state.specs.States.{References, StateData}
use Rattle.sal_frame.specs.Records.{Record, filter_head, info_of}
use Rattle.sal_frame.specs.Built.{built}
use Rattle.sal_frame.specs.After.{planes_of, picture_of, state_after, decoded_of}
use Rattle.sal_decode.specs.Decode.{decode_of}
use Rattle.sal_decode.specs.FirstPartition.{mb_modes}
use Rattle.sal_decode.specs.Syntax.{frame_of, record_of, ◌>>=◌}

-- a frame's record has its header and size
pub record_width : (s : StateData) (bytes : List ℕ) (size : ℕ × ℕ) (parts : List (ℕ × ℕ)) (x : Header × List MbMode) → (record_of s bytes size parts x).width ≡ size.0
unfolding record_of
record_width s bytes size parts x = refl

pub record_height : (s : StateData) (bytes : List ℕ) (size : ℕ × ℕ) (parts : List (ℕ × ℕ)) (x : Header × List MbMode) → (record_of s bytes size parts x).height ≡ size.1
unfolding record_of
record_height s bytes size parts x = refl

-- modes that were read over equal probabilities and sizes
pub same_modes : (h : Header) (probs probs' : Table) (columns columns' rows rows' : ℕ) (d d' : Reading) (ms ms' : List MbMode) → probs' ≡ probs → columns' ≡ columns → rows' ≡ rows → ms' ≡ ms
    → run (mb_modes h probs' columns' rows' (columns' * rows') []) d ≡ (ms, d') → run (mb_modes h probs columns rows (columns * rows) []) d ≡ (ms', d')
same_modes h probs probs' columns columns' rows rows' d d' ms ms' e f g i read =
    ap (λ t. run (mb_modes h t columns rows (columns * rows) []) d) (sym e)
    ∙ (ap (λ n. run (mb_modes h probs' n rows (n * rows) []) d) (sym f)
    ∙ (ap (λ n. run (mb_modes h probs' columns' n (columns' * n) []) d) (sym g)
    ∙ (read ∙ ap (λ (xs : List MbMode). let x : List MbMode × Reading = (xs, d') in x) (sym i))))

pub decoded_so : (s : StateData) (bytes : List ℕ) (f : Record) (d : Decoded StateData) → frame_of s bytes ≡ Ok f → d ≡ decoded_of s f → decode_of s bytes ≡ Ok d
unfolding decode_of
decoded_so s bytes f d e g = ap (λ x. x >>= λ y. Ok (decoded_of s y)) e ∙ ap (λ (x : Decoded StateData). let y : Result (Decoded StateData) Fault = Ok x in y) (sym g)

-- the fault of an answer
fault_in : Result (Decoded StateData) DecodeFault → Fault
fault_in (Ok d) = Short
fault_in (Err (Bad f)) = f
fault_in (Err Memory) = Short

pub same_fault : (s : StateData) (bytes : List ℕ) (f g : Fault) → frame_of s bytes ≡ Err f → ◌≡◌ {A = Result (Decoded StateData) DecodeFault} (Err (Bad f)) (Err (Bad g)) → decode_of s bytes ≡ Err g
unfolding decode_of fault_in
same_fault s bytes f g e same = ap (λ x. x >>= λ y. Ok (decoded_of s y)) e ∙ ap (λ (x : Fault). let y : Result (Decoded StateData) Fault = Err x in y) (ap fault_in same)

-- a fault is answered exactly where there is one
said_fault : Result (Decoded StateData) Fault → Fault
said_fault (Ok d) = Short
said_fault (Err f) = f

pub same_refusal : (s : StateData) (bytes : List ℕ) (f g : Fault) → frame_of s bytes ≡ Err f → decode_of s bytes ≡ Err g → ◌≡◌ {A = Result (Decoded StateData) DecodeFault} (Err (Bad f)) (Err (Bad g))
unfolding decode_of said_fault
same_refusal s bytes f g e said =
    ap (λ (x : Fault). let y : Result (Decoded StateData) DecodeFault = Err (Bad x) in y) (ap said_fault (sym (ap (λ x. x >>= λ y. Ok (decoded_of s y)) e) ∙ said))

-- what was read up to its end has no fault
pub no_refusal : (s : StateData) (bytes : List ℕ) (h : Header) (width height : ℕ) (parts : List (ℕ × ℕ)) (d : Reading) (g : Fault)
    → ((ms : List MbMode) (d' : Reading) → run (mb_modes h (used h.key s.kept.probs h.updates) (blocks_of width) (blocks_of height) (blocks_of width * blocks_of height) []) d ≡ (ms, d') → frame_of s bytes ≡ Ok (record_of s bytes (width, height) parts (h, ms)))
    → decode_of s bytes ≡ Err g → true ≡ false
unfolding decode_of
no_refusal s bytes h width height parts d g read said =
    let x = run (mb_modes h (used h.key s.kept.probs h.updates) (blocks_of width) (blocks_of height) (blocks_of width * blocks_of height) []) d in
    ap is_ok (sym (ap (λ y. y >>= λ z. Ok (decoded_of s z)) (read x.0 x.1 refl)) ∙ said)

-- what goes on as it is where it is Ok
pub ok_through : {A X Y : Type 0} (r : Result A X) (r' : Result A Y) (P : A → Type 0) (Q : X → Type 0) → MatchResult r (λ x. r' ≡ Ok x) Q → is_ok r' ≡ is_ok r → IfOk r P → IfOk r' P
ok_through (Ok x) r' P Q is same h = subst (λ y. IfOk y P) (sym is) h
ok_through (Err e) (Ok x) P Q is same h = absurd (true≢false same)
ok_through (Err e) (Err f) P Q is same h = tt
