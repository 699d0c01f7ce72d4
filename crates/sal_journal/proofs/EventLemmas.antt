-- An event's line is read again as the event, and what is read is what is written of it.
use Rattle.std.proofs.Common.{◌≡◌, ℕ, ◌<◌, ◌≤◌, ◌^◌, Bool, true, false, cond, List, [], ◌∷◌, ◌++◌, length, take, Option, Some, None, Result, Ok, Err, codes, decimal, bytes_eq, ◌==◌, replicate, refl, sym, ap, ◌∙◌, subst, arith, lit≤, lit<, option_to_list, map, IfSome, take_at, drop}
use Rattle.std.specs.List.{AllByRecursion}
use Rattle.std.specs.Result.{result_ok}
use Rattle.std.proofs.lemmas.Slice.Eq.{bytes_eq-Decides}
use Rattle.std.proofs.lemmas.List.Splits.{join_with_byte-slice_split}
use Rattle.hex.specs.Hex.{encode_lower, decode_sized, IsBytes}
use Rattle.hex.specs.declared.error.FromHexError.{FromHexError}
use Rattle.hex.proofs.HexLemmas.{decode_sized-encode_lower, decode_sized-ok, decode_sized-twice, decode_of-ok}
use Rattle.sal_base.specs.declared.name.Name.{Name}
use Rattle.sal_io.specs.Told.{◌>>=◌}
use Rattle.sal_sender.specs.declared.choice.JobRole.{JobRole}
use Rattle.sal_sender.specs.declared.choice.JobRole.TheVariants.{Coarse, Spare, Fine}
use Rattle.sal_sender.specs.declared.choice.Size.{Size}
use Rattle.sal_sender.specs.declared.choice.Size.TheVariants as sizes
use Rattle.sal_world.specs.declared.diary.ReportSize.{ReportSize}
use Rattle.sal_world.specs.declared.diary.ReportSize.TheVariants as reported
use Rattle.sal_world.specs.LineText.{name_word, role_word, size_word, frame_words, late_words, heard_word, shown_word, spaced}
use Rattle.sal_journal.specs.declared.event.JournalEvent.{JournalEvent}
use Rattle.sal_journal.specs.declared.event.JournalEvent.TheVariants.{Moment, Next, Take, Report, Choose, Nothing, Down, Up, Ready, Decoded}
use Rattle.sal_journal.specs.Events.{event_words, IsSmall, IsWrittenName, IsSize, IsFrameSize, IsEvent}
use Rattle.sal_journal.specs.Words.{words_in, next_word, last_word, number_of, either_of, role_of, size_of, named_by, name_of}
use Rattle.sal_journal.specs.Parsing.{small_and, last_number, last_of_two, take_of, late_of, frame_of, oversize_of, report_of, choose_of, other_of, nothing_of, down_of, up_of, decoded_of, event_behind, event_of}
use Rattle.sal_journal.proofs.WordLemmas.{Above, above_literal, words_back, joined_above, all_less, decimal_above, hex_above, number_back, number_said, decimal_digits, decimal_some, no_minus, not_none, some_first}

-- ---- back: single words

pub small_back : (n : ℕ) → IsSmall n → number_of 32 (decimal n) ≡ Some n
small_back n fits = number_back 32 n fits (omega (arith, fits))

same_bytes : (word : List ℕ) → bytes_eq word word ≡ true
same_bytes word = (bytes_eq-Decides word word).1 refl

name_back : (name : Name) → IsWrittenName name → name_of (name_word name) ≡ Some name
unfolding name_of
name_back name written =
    let read = decode_sized-encode_lower (take 8 name.0) 8 written.1 written.0 in
    rw (read, same_bytes (encode_lower (take 8 name.0))) (ap (λ (bytes : List ℕ). Some (record { 0 = bytes })) (sym written.2))

role_back : (role : JobRole) → role_of (role_word role) ≡ Some role
role_back Coarse = refl
role_back Spare = refl
role_back Fine = refl

heard_back : (heard : Bool) → either_of (codes "heard") (codes "old") (heard_word heard) ≡ Some heard
heard_back true = refl
heard_back false = refl

shown_back : (shown : Bool) → either_of (codes "shown") (codes "older") (shown_word shown) ≡ Some shown
shown_back true = refl
shown_back false = refl

late_back : (late : Bool) → late_of (late_words late) ≡ Some late
late_back true = refl
late_back false = refl

size_back : (size : Size) → IsSize size → size_of (size_word size) ≡ Some size
size_back (sizes.Datagrams count) fits = let plain = no_minus (decimal count) (decimal_digits count (omega (arith, fits))) (decimal_some count (omega (arith, fits))) in rw (plain.0, plain.1, small_back count fits) refl
size_back (sizes.Oversize first) fits = rw (not_none (decimal first) (decimal_some first (omega (arith, fits))), small_back first fits) refl
size_back sizes.NoMemory fits = refl

other_back : (other : Option Size) → IfSome other IsSize → other_of (map size_word (option_to_list other)) ≡ Some other
other_back None fits = refl
other_back (Some size) fits = rw (size_back size fits) refl

-- ---- back: an event

report_back : (job : ℕ) (size : ReportSize) (late : Bool) → IsSmall job → IsFrameSize size → report_of (decimal job ∷ (frame_words size ++ late_words late)) ≡ Some (Report job size late)
report_back job (reported.Frame length name) late fits sized = rw (small_back job fits, small_back length sized.0, name_back name sized.1, late_back late) refl
report_back job (reported.Oversize first) late fits sized = rw (small_back job fits, small_back first sized, late_back late) refl

event_back : (event : JournalEvent) → IsEvent event → next_word (event_words event) >>= (λ word. event_behind word.0 word.1) ≡ Some event
event_back (Moment moment) fits = rw (number_back 64 moment fits fits) refl
event_back (Next number) fits = rw (small_back number fits) refl
event_back (Take job role) fits = rw (small_back job fits, role_back role) refl
event_back (Report job size late) fits = report_back job size late fits.0 fits.1
event_back (Choose number job source count) fits = rw (small_back number fits.0, small_back job fits.1, small_back source fits.2, small_back count fits.3) refl
event_back (Nothing budget size other) fits = rw (small_back budget fits.0, size_back size fits.1, other_back other fits.2) refl
event_back (Down number) fits = rw (small_back number fits) refl
event_back (Up number heard) fits = rw (number_back 64 number fits fits, heard_back heard) refl
event_back (Ready number) fits = rw (small_back number fits) refl
event_back (Decoded number shown) fits = rw (small_back number fits, shown_back shown) refl

-- ---- forth: the steps of a reading

bound : {A B : Type 0} (o : Option A) (f : A → Option B) (y : B) (P : Type 0) → (o >>= f) ≡ Some y → ((x : A) → o ≡ Some x → f x ≡ Some y → P) → P
bound None f y P p go = absurd cc
bound (Some x) f y P p go = go x refl p

tested : {B : Type 0} (b : Bool) (u v : Option B) (y : B) (P : Type 0) → cond b u v ≡ Some y → (b ≡ true → u ≡ Some y → P) → (b ≡ false → v ≡ Some y → P) → P
tested true u v y P p is_so is_not = is_so refl p
tested false u v y P p is_so is_not = is_not refl p

is_word : (a b : List ℕ) → bytes_eq a b ≡ true → a ≡ b
is_word a b same = (bytes_eq-Decides a b).0 same

-- these are the words, and they say an event that a journal can have
pub record Said (event : JournalEvent) (words : List (List ℕ)) : Type 0 where
  pub words_are : words ≡ event_words event
  pub fits : IsEvent event

pub next_said : (words : List (List ℕ)) (x : List ℕ × List (List ℕ)) → next_word words ≡ Some x → words ≡ x.0 ∷ x.1
next_said [] x p = absurd cc
next_said (word ∷ more) x p = cc

last_said : (words : List (List ℕ)) (word : List ℕ) → last_word words ≡ Some word → words ≡ word ∷ []
last_said [] word p = absurd cc
last_said (w ∷ []) word p = cc
last_said (w ∷ next ∷ more) word p = absurd cc

pub record SmallAnd (words more : List (List ℕ)) (number : ℕ) : Type 0 where
  pub words_are : words ≡ decimal number ∷ more
  pub fits : IsSmall number

pub small_said : (words : List (List ℕ)) (x : ℕ × List (List ℕ)) → small_and words ≡ Some x → SmallAnd words x.1 x.0
small_said words x p =
    bound (next_word words) _ x (SmallAnd words x.1 x.0) p (λ word at q.
    bound (number_of 32 word.0) _ x (SmallAnd words x.1 x.0) q (λ number is r.
    let n = number_said 32 number word.0 (lit≤ tt) is in
    let first : x.0 ≡ number = cc in
    let rest : x.1 ≡ word.1 = cc in
    record {
      words_are = next_said words word at ∙ ap (λ (w : List ℕ). w ∷ word.1) n.word_is ∙ ap (λ (k : ℕ). decimal k ∷ word.1) (sym first) ∙ ap (λ (ws : List (List ℕ)). decimal x.0 ∷ ws) (sym rest);
      fits = subst (λ (k : ℕ). IsSmall k) (sym first) n.fits;
    }))

pub record LastNumber (bits : ℕ) (words : List (List ℕ)) (number : ℕ) : Type 0 where
  pub words_are : words ≡ decimal number ∷ []
  pub fits : number < 2 ^ bits

pub last_number_said : (bits : ℕ) (words : List (List ℕ)) (number : ℕ) → bits ≤ 64 → last_number bits words ≡ Some number → LastNumber bits words number
last_number_said bits words number le p =
    bound (last_word words) _ number (LastNumber bits words number) p (λ word at q.
    let n = number_said bits number word le q in
    record { words_are = last_said words word at ∙ ap (λ (w : List ℕ). w ∷ []) n.word_is; fits = n.fits })

-- ---- forth: single words

role_said : (word : List ℕ) (role : JobRole) → role_of word ≡ Some role → word ≡ role_word role
role_said word role p =
    tested (bytes_eq word (codes "coarse")) _ _ role (word ≡ role_word role) p (λ is_so q. let e : Coarse ≡ role = cc in is_word word _ is_so ∙ ap role_word e) (λ is_not q.
    tested (bytes_eq word (codes "spare")) _ _ role (word ≡ role_word role) q (λ is_so r. let e : Spare ≡ role = cc in is_word word _ is_so ∙ ap role_word e) (λ is_not r.
    tested (bytes_eq word (codes "fine")) _ _ role (word ≡ role_word role) r (λ is_so s. let e : Fine ≡ role = cc in is_word word _ is_so ∙ ap role_word e) (λ is_not s. absurd cc)))

either_said : (is_so is_not word : List ℕ) (first : Bool) → either_of is_so is_not word ≡ Some first → word ≡ cond first is_so is_not
either_said is_so is_not word first p =
    tested (bytes_eq word is_so) _ _ first (word ≡ cond first is_so is_not) p (λ is q. let e : true ≡ first = cc in is_word word _ is ∙ ap (λ (b : Bool). cond b is_so is_not) e) (λ isnt q.
    tested (bytes_eq word is_not) _ _ first (word ≡ cond first is_so is_not) q (λ is r. let e : false ≡ first = cc in is_word word _ is ∙ ap (λ (b : Bool). cond b is_so is_not) e) (λ isnt r. absurd cc))

record SizeSaid (word : List ℕ) (size : Size) : Type 0 where
  word_is : word ≡ size_word size
  fits : IsSize size

minus_first : (word : List ℕ) → bytes_eq (take 1 word) (codes "-") ≡ true → word ≡ codes "-" ++ drop 1 word
minus_first [] p = absurd cc
minus_first (b ∷ word) p = let e : b ∷ [] ≡ codes "-" = is_word (b ∷ []) _ p in ap (λ (xs : List ℕ). xs ++ word) e

size_said : (word : List ℕ) (size : Size) → size_of word ≡ Some size → SizeSaid word size
size_said word size p =
    tested (bytes_eq word (codes "-")) _ _ size (SizeSaid word size) p
    (λ is_so q. let e : sizes.NoMemory ≡ size = cc in subst (λ (s : Size). SizeSaid word s) e (record { word_is = is_word word _ is_so; fits = tt }))
    (λ is_not q. tested (bytes_eq (take 1 word) (codes "-")) _ _ size (SizeSaid word size) q
    (λ is_so r. bound (number_of 32 (drop 1 word)) _ size (SizeSaid word size) r (λ first is s.
    let n = number_said 32 first (drop 1 word) (lit≤ tt) is in
    let e : sizes.Oversize first ≡ size = cc in
    subst (λ (z : Size). SizeSaid word z) e (record { word_is = minus_first word is_so ∙ ap (λ (ds : List ℕ). codes "-" ++ ds) n.word_is; fits = n.fits })))
    (λ is_not r. bound (number_of 32 word) _ size (SizeSaid word size) r (λ count is s.
    let n = number_said 32 count word (lit≤ tt) is in
    let e : sizes.Datagrams count ≡ size = cc in
    subst (λ (z : Size). SizeSaid word z) e (record { word_is = n.word_is; fits = n.fits }))))

record NameSaid (word : List ℕ) (name : Name) : Type 0 where
  word_is : word ≡ name_word name
  written : IsWrittenName name

whole_name : (word bytes : List ℕ) → length bytes ≡ 8 → IsBytes bytes → bytes_eq (encode_lower bytes) word ≡ true → NameSaid word (record { 0 = bytes ++ replicate 8 0 })
whole_name word bytes len fits same =
    let front : take 8 (bytes ++ replicate 8 0) ≡ bytes = take_at bytes (replicate 8 0) 8 len in
    record {
      word_is = sym (is_word (encode_lower bytes) word same) ∙ ap encode_lower (sym front);
      written = (subst (λ (bs : List ℕ). IsBytes bs) (sym front) fits, ap length front ∙ len, ap (λ (bs : List ℕ). bs ++ replicate 8 0) (sym front));
    }

ok_is : (r : Result (List ℕ) FromHexError) (bytes : List ℕ) → result_ok r ≡ Some bytes → r ≡ Ok bytes
ok_is (Ok x) bytes p = cc
ok_is (Err e) bytes p = absurd cc

name_said : (word : List ℕ) (name : Name) → name_of word ≡ Some name → NameSaid word name
unfolding name_of
name_said word name p =
    bound (result_ok (decode_sized word 8)) _ name (NameSaid word name) p (λ bytes at q.
    let is = ok_is (decode_sized word 8) bytes at in
    let long = decode_sized-ok word 8 bytes is in
    let ok = decode_of-ok word bytes (sym (decode_sized-twice word 8 long) ∙ is) in
    tested (bytes_eq (encode_lower bytes) word) _ _ name (NameSaid word name) q
    (λ is_so r. let e : named_by bytes ≡ name = cc in subst (λ (n : Name). NameSaid word n) e (whole_name word bytes (omega (arith, long, ok.2)) ok.3 is_so))
    (λ is_not r. absurd cc))

none_left : (words : List (List ℕ)) → (length words == 0) ≡ true → words ≡ []
none_left [] h = refl
none_left (word ∷ words) h = absurd (some_first (length words) h)

late_said : (words : List (List ℕ)) (late : Bool) → late_of words ≡ Some late → words ≡ late_words late
late_said words late p =
    tested (length words == 0) _ _ late (words ≡ late_words late) p
    (λ none q. let e : false ≡ late = cc in none_left words none ∙ ap late_words e)
    (λ some q. bound (last_word words) _ late (words ≡ late_words late) q (λ word at r.
    tested (bytes_eq word (codes "late")) _ _ late (words ≡ late_words late) r
    (λ is_so s. let e : true ≡ late = cc in last_said words word at ∙ ap (λ (w : List ℕ). w ∷ []) (is_word word _ is_so) ∙ ap late_words e)
    (λ is_not s. absurd cc)))

record OtherSaid (words : List (List ℕ)) (other : Option Size) : Type 0 where
  words_are : words ≡ map size_word (option_to_list other)
  fits : IfSome other IsSize

other_said : (words : List (List ℕ)) (other : Option Size) → other_of words ≡ Some other → OtherSaid words other
other_said words other p =
    tested (length words == 0) _ _ other (OtherSaid words other) p
    (λ none q. let e : None ≡ other = cc in subst (λ (o : Option Size). OtherSaid words o) e (record { words_are = none_left words none; fits = tt }))
    (λ some q. bound (last_word words >>= size_of) _ other (OtherSaid words other) q (λ size is r.
    bound (last_word words) _ size (OtherSaid words other) is (λ word at z.
    let s = size_said word size z in
    let e : Some size ≡ other = cc in
    subst (λ (o : Option Size). OtherSaid words o) e (record { words_are = last_said words word at ∙ ap (λ (w : List ℕ). w ∷ []) s.word_is; fits = s.fits }))))

-- ---- forth: the kinds of lines

heard_is : (heard : Bool) → cond heard (codes "heard") (codes "old") ≡ heard_word heard
heard_is true = refl
heard_is false = refl

shown_is : (shown : Bool) → cond shown (codes "shown") (codes "older") ≡ shown_word shown
shown_is true = refl
shown_is false = refl

pub onto : (a b : List ℕ) (xs ys : List (List ℕ)) → a ≡ b → xs ≡ ys → a ∷ xs ≡ b ∷ ys
onto a b xs ys same more = cc

as_said : (words : List (List ℕ)) (here event : JournalEvent) → Some here ≡ Some event → Said here words → Said event words
as_said words here event p said = let e : here ≡ event = cc in subst (λ (x : JournalEvent). Said x words) e said

module _ (word : List ℕ) (words : List (List ℕ)) (event : JournalEvent) where
  abbrev Here : Type 0
  Here = Said event (word ∷ words)

  down_said : word ≡ codes "down" → down_of words ≡ Some event → Here
  down_said is p =
      bound (small_and words) _ event Here p (λ number at q.
      bound (last_word number.1) _ event Here q (λ taken last r.
      tested (bytes_eq taken (codes "taken")) _ _ event Here r
      (λ is_so s.
      let n = small_said words number at in
      as_said (word ∷ words) (Down number.0) event s (record {
        words_are = onto _ _ _ _ is (n.words_are ∙ ap (λ (ws : List (List ℕ)). decimal number.0 ∷ ws) (last_said number.1 taken last ∙ ap (λ (w : List ℕ). w ∷ []) (is_word taken _ is_so)));
        fits = n.fits;
      }))
      (λ is_not s. absurd cc)))

  up_said : word ≡ codes "up" → up_of words ≡ Some event → Here
  up_said is p =
      bound (next_word words) _ event Here p (λ first at q.
      bound (number_of 64 first.0) _ event Here q (λ number says r.
      bound (last_of_two (codes "heard") (codes "old") first.1) _ event Here r (λ heard two s.
      bound (last_word first.1) _ heard Here two (λ last ends t.
      let n = number_said 64 number first.0 (lit≤ tt) says in
      as_said (word ∷ words) (Up number heard) event s (record {
        words_are = onto _ _ _ _ is (next_said words first at ∙ onto _ _ _ _ n.word_is (last_said first.1 last ends ∙ ap (λ (w : List ℕ). w ∷ []) (either_said _ _ last heard t ∙ heard_is heard)));
        fits = n.fits;
      })))))

  decoded_said : word ≡ codes "decoded" → decoded_of words ≡ Some event → Here
  decoded_said is p =
      bound (small_and words) _ event Here p (λ number at q.
      bound (last_of_two (codes "shown") (codes "older") number.1) _ event Here q (λ shown two r.
      bound (last_word number.1) _ shown Here two (λ last ends t.
      let n = small_said words number at in
      as_said (word ∷ words) (Decoded number.0 shown) event r (record {
        words_are = onto _ _ _ _ is (n.words_are ∙ ap (λ (ws : List (List ℕ)). decimal number.0 ∷ ws) (last_said number.1 last ends ∙ ap (λ (w : List ℕ). w ∷ []) (either_said _ _ last shown t ∙ shown_is shown)));
        fits = n.fits;
      }))))

  take_said : word ≡ codes "take" → take_of words ≡ Some event → Here
  take_said is p =
      bound (small_and words) _ event Here p (λ job at q.
      bound (last_word job.1) _ event Here q (λ last ends r.
      bound (role_of last) _ event Here r (λ role says s.
      let n = small_said words job at in
      as_said (word ∷ words) (Take job.0 role) event s (record {
        words_are = onto _ _ _ _ is (n.words_are ∙ ap (λ (ws : List (List ℕ)). decimal job.0 ∷ ws) (last_said job.1 last ends ∙ ap (λ (w : List ℕ). w ∷ []) (role_said last role says)));
        fits = n.fits;
      }))))

  ready_said : word ≡ codes "ready" → (last_number 32 words >>= λ number. Some (Ready number)) ≡ Some event → Here
  ready_said is p =
      bound (last_number 32 words) _ event Here p (λ number at q.
      let n = last_number_said 32 words number (lit≤ tt) at in
      as_said (word ∷ words) (Ready number) event q (record { words_are = onto _ _ _ _ is n.words_are; fits = n.fits }))

  next_line_said : word ≡ codes "next" → (last_number 32 words >>= λ number. Some (Next number)) ≡ Some event → Here
  next_line_said is p =
      bound (last_number 32 words) _ event Here p (λ number at q.
      let n = last_number_said 32 words number (lit≤ tt) at in
      as_said (word ∷ words) (Next number) event q (record { words_are = onto _ _ _ _ is n.words_are; fits = n.fits }))

  moment_said : word ≡ codes "moment" → (last_number 64 words >>= λ moment. Some (Moment moment)) ≡ Some event → Here
  moment_said is p =
      bound (last_number 64 words) _ event Here p (λ moment at q.
      let n = last_number_said 64 words moment (lit≤ tt) at in
      as_said (word ∷ words) (Moment moment) event q (record { words_are = onto _ _ _ _ is n.words_are; fits = n.fits }))

  choose_said : word ≡ codes "choose" → choose_of words ≡ Some event → Here
  choose_said is p =
      bound (small_and words) _ event Here p (λ number at1 q.
      bound (small_and number.1) _ event Here q (λ job at2 r.
      bound (small_and job.1) _ event Here r (λ source at3 s.
      bound (last_number 32 source.1) _ event Here s (λ count at4 t.
      let a = small_said words number at1 in
      let b = small_said number.1 job at2 in
      let c = small_said job.1 source at3 in
      let d = last_number_said 32 source.1 count (lit≤ tt) at4 in
      as_said (word ∷ words) (Choose number.0 job.0 source.0 count) event t (record {
        words_are = onto _ _ _ _ is (a.words_are ∙ onto _ _ _ _ refl (b.words_are ∙ onto _ _ _ _ refl (c.words_are ∙ onto _ _ _ _ refl d.words_are)));
        fits = (a.fits, b.fits, c.fits, d.fits);
      })))))

  nothing_said : word ≡ codes "nothing" → nothing_of words ≡ Some event → Here
  nothing_said is p =
      bound (small_and words) _ event Here p (λ budget at1 q.
      bound (next_word budget.1) _ event Here q (λ first at2 r.
      bound (size_of first.0) _ event Here r (λ size at3 s.
      bound (other_of first.1) _ event Here s (λ other at4 t.
      let a = small_said words budget at1 in
      let b = size_said first.0 size at3 in
      let c = other_said first.1 other at4 in
      as_said (word ∷ words) (Nothing budget.0 size other) event t (record {
        words_are = onto _ _ _ _ is (a.words_are ∙ onto _ _ _ _ refl (next_said budget.1 first at2 ∙ onto _ _ _ _ b.word_is c.words_are));
        fits = (a.fits, b.fits, c.fits);
      })))))

frame_said : (job : ℕ) (words : List (List ℕ)) (event : JournalEvent) → IsSmall job → frame_of job words ≡ Some event → Said event (codes "report" ∷ decimal job ∷ codes "frame" ∷ words)
frame_said job words event fits p =
    bound (small_and words) _ event (Said event (codes "report" ∷ decimal job ∷ codes "frame" ∷ words)) p (λ length at1 q.
    bound (next_word length.1) _ event (Said event (codes "report" ∷ decimal job ∷ codes "frame" ∷ words)) q (λ first at2 r.
    bound (name_of first.0) _ event (Said event (codes "report" ∷ decimal job ∷ codes "frame" ∷ words)) r (λ name at3 s.
    bound (late_of first.1) _ event (Said event (codes "report" ∷ decimal job ∷ codes "frame" ∷ words)) s (λ late at4 t.
    let a = small_said words length at1 in
    let b = name_said first.0 name at3 in
    as_said (codes "report" ∷ decimal job ∷ codes "frame" ∷ words) (Report job (reported.Frame length.0 name) late) event t (record {
      words_are = ap (λ (ws : List (List ℕ)). codes "report" ∷ decimal job ∷ codes "frame" ∷ ws) (a.words_are ∙ onto _ _ _ _ refl (next_said length.1 first at2 ∙ onto _ _ _ _ b.word_is (late_said first.1 late at4)));
      fits = (fits, (a.fits, b.written));
    })))))

oversize_said : (job : ℕ) (words : List (List ℕ)) (event : JournalEvent) → IsSmall job → oversize_of job words ≡ Some event → Said event (codes "report" ∷ decimal job ∷ codes "oversize" ∷ words)
oversize_said job words event fits p =
    bound (small_and words) _ event (Said event (codes "report" ∷ decimal job ∷ codes "oversize" ∷ words)) p (λ first at1 q.
    bound (late_of first.1) _ event (Said event (codes "report" ∷ decimal job ∷ codes "oversize" ∷ words)) q (λ late at2 r.
    let a = small_said words first at1 in
    as_said (codes "report" ∷ decimal job ∷ codes "oversize" ∷ words) (Report job (reported.Oversize first.0) late) event r (record {
      words_are = ap (λ (ws : List (List ℕ)). codes "report" ∷ decimal job ∷ codes "oversize" ∷ ws) (a.words_are ∙ onto _ _ _ _ refl (late_said first.1 late at2));
      fits = (fits, a.fits);
    })))

report_said : (word : List ℕ) (words : List (List ℕ)) (event : JournalEvent) → word ≡ codes "report" → report_of words ≡ Some event → Said event (word ∷ words)
report_said word words event is p =
    bound (small_and words) _ event (Said event (word ∷ words)) p (λ job at1 q.
    bound (next_word job.1) _ event (Said event (word ∷ words)) q (λ kind at2 r.
    let a = small_said words job at1 in
    let here : (k : List ℕ) → kind.0 ≡ k → Said event (codes "report" ∷ decimal job.0 ∷ k ∷ kind.1) → Said event (word ∷ words) = λ k is_kind said. record {
      words_are = onto _ _ _ _ is (a.words_are ∙ onto _ _ _ _ refl (next_said job.1 kind at2 ∙ onto _ _ _ _ is_kind refl)) ∙ said.words_are;
      fits = said.fits;
    } in
    tested (bytes_eq kind.0 (codes "frame")) _ _ event (Said event (word ∷ words)) r
    (λ is_so s. here (codes "frame") (is_word kind.0 _ is_so) (frame_said job.0 kind.1 event a.fits s))
    (λ is_not s. tested (bytes_eq kind.0 (codes "oversize")) _ _ event (Said event (word ∷ words)) s
    (λ is_so t. here (codes "oversize") (is_word kind.0 _ is_so) (oversize_said job.0 kind.1 event a.fits t))
    (λ is_not t. absurd cc))))

behind_said : (word : List ℕ) (words : List (List ℕ)) (event : JournalEvent) → event_behind word words ≡ Some event → Said event (word ∷ words)
behind_said word words event p0 =
    tested (bytes_eq word (codes "down")) _ _ event (Said event (word ∷ words)) p0 (λ is_so q. down_said word words event (is_word word _ is_so) q) (λ is_not p1.
    tested (bytes_eq word (codes "up")) _ _ event (Said event (word ∷ words)) p1 (λ is_so q. up_said word words event (is_word word _ is_so) q) (λ is_not p2.
    tested (bytes_eq word (codes "take")) _ _ event (Said event (word ∷ words)) p2 (λ is_so q. take_said word words event (is_word word _ is_so) q) (λ is_not p3.
    tested (bytes_eq word (codes "report")) _ _ event (Said event (word ∷ words)) p3 (λ is_so q. report_said word words event (is_word word _ is_so) q) (λ is_not p4.
    tested (bytes_eq word (codes "ready")) _ _ event (Said event (word ∷ words)) p4 (λ is_so q. ready_said word words event (is_word word _ is_so) q) (λ is_not p5.
    tested (bytes_eq word (codes "decoded")) _ _ event (Said event (word ∷ words)) p5 (λ is_so q. decoded_said word words event (is_word word _ is_so) q) (λ is_not p6.
    tested (bytes_eq word (codes "next")) _ _ event (Said event (word ∷ words)) p6 (λ is_so q. next_line_said word words event (is_word word _ is_so) q) (λ is_not p7.
    tested (bytes_eq word (codes "choose")) _ _ event (Said event (word ∷ words)) p7 (λ is_so q. choose_said word words event (is_word word _ is_so) q) (λ is_not p8.
    tested (bytes_eq word (codes "nothing")) _ _ event (Said event (word ∷ words)) p8 (λ is_so q. nothing_said word words event (is_word word _ is_so) q) (λ is_not p9.
    tested (bytes_eq word (codes "moment")) _ _ event (Said event (word ∷ words)) p9 (λ is_so q. moment_said word words event (is_word word _ is_so) q) (λ is_not q. absurd cc))))))))))

-- ---- lines

-- what is read of a line is what is written of it
pub record LineSaid (text : List ℕ) (event : JournalEvent) : Type 0 where
  pub text_is : text ≡ spaced (event_words event)
  pub fits : IsEvent event

pub event_said : (text : List ℕ) (event : JournalEvent) → event_of text ≡ Some event → LineSaid text event
event_said text event p =
    bound (next_word (words_in text)) _ event (LineSaid text event) p (λ word at q.
    let said = behind_said word.0 word.1 event q in
    record {
      text_is = sym (join_with_byte-slice_split 32 text) ∙ ap spaced (next_said (words_in text) word at ∙ said.words_are);
      fits = said.fits;
    })

pub small_above : (n : ℕ) → IsSmall n → Above 32 (decimal n)
small_above n fits = decimal_above n (omega (arith, fits))

size_above : (size : Size) → IsSize size → Above 32 (size_word size)
size_above (sizes.Datagrams count) fits = small_above count fits
size_above (sizes.Oversize first) fits = (lit< tt, small_above first fits)
size_above sizes.NoMemory fits = above_literal 32 (codes "-") refl

role_above : (role : JobRole) → Above 32 (role_word role)
role_above Coarse = above_literal 32 (codes "coarse") refl
role_above Spare = above_literal 32 (codes "spare") refl
role_above Fine = above_literal 32 (codes "fine") refl

late_above : (late : Bool) → AllByRecursion (Above 32) (late_words late)
late_above true = (above_literal 32 (codes "late") refl, tt)
late_above false = tt

heard_above : (heard : Bool) → Above 32 (heard_word heard)
heard_above true = above_literal 32 (codes "heard") refl
heard_above false = above_literal 32 (codes "old") refl

shown_above : (shown : Bool) → Above 32 (shown_word shown)
shown_above true = above_literal 32 (codes "shown") refl
shown_above false = above_literal 32 (codes "older") refl

other_above : (other : Option Size) → IfSome other IsSize → AllByRecursion (Above 32) (map size_word (option_to_list other))
other_above None fits = tt
other_above (Some size) fits = (size_above size fits, tt)

report_above : (size : ReportSize) (late : Bool) → IsFrameSize size → AllByRecursion (Above 32) (frame_words size ++ late_words late)
report_above (reported.Frame length name) late fits = (above_literal 32 (codes "frame") refl, (small_above length fits.0, (hex_above (take 8 name.0) fits.1.0, late_above late)))
report_above (reported.Oversize first) late fits = (above_literal 32 (codes "oversize") refl, (small_above first fits, late_above late))

pub words_above : (event : JournalEvent) → IsEvent event → AllByRecursion (Above 32) (event_words event)
words_above (Moment moment) fits = (above_literal 32 (codes "moment") refl, (decimal_above moment fits, tt))
words_above (Next number) fits = (above_literal 32 (codes "next") refl, (small_above number fits, tt))
words_above (Take job role) fits = (above_literal 32 (codes "take") refl, (small_above job fits, (role_above role, tt)))
words_above (Report job size late) fits = (above_literal 32 (codes "report") refl, (small_above job fits.0, report_above size late fits.1))
words_above (Choose number job source count) fits = (above_literal 32 (codes "choose") refl, (small_above number fits.0, (small_above job fits.1, (small_above source fits.2, (small_above count fits.3, tt)))))
words_above (Nothing budget size other) fits = (above_literal 32 (codes "nothing") refl, (small_above budget fits.0, (size_above size fits.1, other_above other fits.2)))
words_above (Down number) fits = (above_literal 32 (codes "down") refl, (small_above number fits, (above_literal 32 (codes "taken") refl, tt)))
words_above (Up number heard) fits = (above_literal 32 (codes "up") refl, (decimal_above number fits, (heard_above heard, tt)))
words_above (Ready number) fits = (above_literal 32 (codes "ready") refl, (small_above number fits, tt))
words_above (Decoded number shown) fits = (above_literal 32 (codes "decoded") refl, (small_above number fits, (shown_above shown, tt)))

some_words : (event : JournalEvent) → 0 < length (event_words event)
some_words (Moment moment) = omega arith
some_words (Next number) = omega arith
some_words (Take job role) = omega arith
some_words (Report job size late) = omega arith
some_words (Choose number job source count) = omega arith
some_words (Nothing budget size other) = omega arith
some_words (Down number) = omega arith
some_words (Up number heard) = omega arith
some_words (Ready number) = omega arith
some_words (Decoded number shown) = omega arith

-- an event is read again from its line
pub line_back : (event : JournalEvent) → IsEvent event → event_of (spaced (event_words event)) ≡ Some event
line_back event fits = ap (λ (ws : List (List ℕ)). next_word ws >>= λ word. event_behind word.0 word.1) (words_back 32 (event_words event) (some_words event) (words_above event fits)) ∙ event_back event fits

-- a line has is_not newline
pub line_above : (event : JournalEvent) → IsEvent event → Above 10 (spaced (event_words event))
line_above event fits = joined_above 10 32 (event_words event) (lit< tt) (all_less (event_words event) (words_above event fits))
