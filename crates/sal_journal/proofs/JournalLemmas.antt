-- A journal is read again from its text, and what is read is what is written of it.
use Rattle.std.proofs.Common.{◌≡◌, ℕ, ◌+◌, ◌<◌, ◌≤◌, ◌^◌, Bool, true, false, cond, if◌then◌else◌, ◌&&◌, nat_le, List, [], ◌∷◌, ◌++◌, length, map, Option, Some, None, Result, Ok, Err, codes, decimal, bytes_eq, ◌==◌, refl, sym, ap, ◌∙◌, subst, arith, lit<, lit≤, append_assoc}
use Rattle.std.specs.List.{AllByRecursion, join_with_byte}
use Rattle.std.proofs.lemmas.Bool.{false_from_ne_true, le-leb, and_parts, leb-true}
use Rattle.std.proofs.lemmas.Slice.Eq.{bytes_eq-Decides}
use Rattle.std.proofs.lemmas.List.Splits.{join_with_byte-slice_split}
use Rattle.sal_io.specs.Told.{◌>>=◌}
use Rattle.sal_y4m.specs.declared.head.Head.{Head as HeadData}
use Rattle.sal_world.specs.declared.diary.Line.TheVariants.{Head, End}
use Rattle.sal_world.specs.LineText.{spaced, line_words, line_text, lines_text, journal_text}
use Rattle.sal_journal.specs.declared.event.JournalEvent.{JournalEvent}
use Rattle.sal_journal.specs.Events.{line_of, event_words, IsEvent, IsJournalHead}
use Rattle.sal_journal.specs.Words.{words_in, next_word}
use Rattle.sal_journal.specs.Parsing.{small_and, last_number, event_of}
use Rattle.sal_journal.specs.Reading.{whole_head, head_behind, head_of, lines_in, with_event, one_event, events_in, Told, with_head, told_by, journal_of, IsJournal}
use Rattle.sal_journal.proofs.WordLemmas.{Above, above_literal, first_part, some_part, words_back, joined_above, all_less, some_first}
use Rattle.sal_journal.proofs.EventLemmas.{LineSaid, event_said, line_back, line_above, small_back, small_above, next_said, small_said, last_number_said, onto}

-- ---- back

-- the first line of a text
line_cut : (line rest : List ℕ) → Above 10 line → lines_in ((line ++ codes "\n") ++ rest) ≡ line ∷ lines_in rest
line_cut line rest h = ap lines_in (append_assoc line (10 ∷ []) rest) ∙ first_part 10 line rest h

event_step : (number : ℕ) (line : List ℕ) (more : List (List ℕ)) (event : JournalEvent) → (length more == 0) ≡ false → bytes_eq line (codes "end") ≡ false → event_of line ≡ Some event
    → events_in number (line ∷ more) ≡ with_event event (events_in (number + 1) more)
event_step number line more event some other says = rw (some, other, says) refl

no_event : event_of (codes "end") ≡ None
no_event = refl

not_end : (line : List ℕ) (event : JournalEvent) → event_of line ≡ Some event → bytes_eq line (codes "end") ≡ false
not_end line event says = false_from_ne_true _ (λ same.
    let e : line ≡ codes "end" = (bytes_eq-Decides line (codes "end")).0 same in
    let none : None ≡ Some event = sym (ap event_of e ∙ no_event) ∙ says in cc)

events_back : (events : List JournalEvent) (number : ℕ) → AllByRecursion IsEvent events → events_in number (lines_in (lines_text (map line_of events) ++ line_text End)) ≡ Ok events
events_back [] number fits = refl
events_back (event ∷ events) number fits =
    let line = spaced (event_words event) in
    let rest = lines_text (map line_of events) ++ line_text End in
    let says = line_back event fits.0 in
    ap (λ (text : List ℕ). events_in number (lines_in text)) (append_assoc (line_text (line_of event)) (lines_text (map line_of events)) (line_text End))
    ∙ ap (λ (ls : List (List ℕ)). events_in number ls) (line_cut line rest (line_above event fits.0))
    ∙ event_step number line (lines_in rest) event (some_part 10 rest) (not_end line event says) says
    ∙ ap (λ (r : Result (List JournalEvent) ℕ). with_event event r) (events_back events (number + 1) fits.1)

wide_fits : (n : ℕ) → n ≤ 1280 → n < 2 ^ 32
wide_fits n le = omega (arith, le)

high_fits : (n : ℕ) → n ≤ 720 → n < 2 ^ 32
high_fits n le = omega (arith, le)

head_words_above : (head : HeadData) → IsJournalHead head → AllByRecursion (Above 32) (line_words (Head head))
head_words_above head whole =
    let width : head.width < 2 ^ 32 = wide_fits head.width whole.sides.not_wider in
    let height : head.height < 2 ^ 32 = high_fits head.height whole.sides.not_higher in
    (above_literal 32 (codes "salsify") refl, (above_literal 32 (codes "1") refl, (small_above head.width width, (small_above head.height height, (small_above head.rate.0 whole.pictures.1, (small_above head.rate.1 whole.seconds.1, tt))))))

whole_back : (head : HeadData) → IsJournalHead head → whole_head head.width head.height head.rate.0 head.rate.1 ≡ Some head
whole_back head whole = rw (le-leb 1 head.width whole.sides.wide, le-leb head.width 1280 whole.sides.not_wider, le-leb 1 head.height whole.sides.high, le-leb head.height 720 whole.sides.not_higher, le-leb 1 head.rate.0 whole.pictures.0, le-leb 1 head.rate.1 whole.seconds.0) refl

head_back : (head : HeadData) → IsJournalHead head → head_of (spaced (line_words (Head head))) ≡ Some head
head_back head whole =
    let width : head.width < 2 ^ 32 = wide_fits head.width whole.sides.not_wider in
    let height : head.height < 2 ^ 32 = high_fits head.height whole.sides.not_higher in
    ap (λ (ws : List (List ℕ)). next_word ws >>= λ word. if bytes_eq word.0 (codes "salsify") then head_behind word.1 else None) (words_back 32 (line_words (Head head)) (omega arith) (head_words_above head whole))
    ∙ rw (small_back head.width width, small_back head.height height, small_back head.rate.0 whole.pictures.1, small_back head.rate.1 whole.seconds.1) (whole_back head whole)

journal_step : (line : List ℕ) (more : List (List ℕ)) (head : HeadData) (events : List JournalEvent) → (length more == 0) ≡ false → head_of line ≡ Some head → events_in 2 more ≡ Ok events → told_by (line ∷ more) ≡ Ok (record { head = head; events = events })
journal_step line more head events some says told = rw (some, says, told) refl

pub journal_back : (head : HeadData) (events : List JournalEvent) → IsJournalHead head → AllByRecursion IsEvent events → journal_of (journal_text head (map line_of events)) ≡ Ok (record { head = head; events = events })
journal_back head events whole fits =
    let line = spaced (line_words (Head head)) in
    let rest = lines_text (map line_of events) ++ line_text End in
    ap told_by (line_cut line rest (joined_above 10 32 (line_words (Head head)) (lit< tt) (all_less (line_words (Head head)) (head_words_above head whole))))
    ∙ journal_step line (lines_in rest) head events (some_part 10 rest) (head_back head whole) (events_back events 2 fits)

-- ---- forth

branch : {R : Type 0} (b : Bool) (u v y : R) (P : Type 0) → cond b u v ≡ y → (b ≡ true → u ≡ y → P) → (b ≡ false → v ≡ y → P) → P
branch true u v y P p this that = this refl p
branch false u v y P p this that = that refl p

bind : {A B : Type 0} (o : Option A) (f : A → Option B) (y : B) (P : Type 0) → (o >>= f) ≡ Some y → ((x : A) → o ≡ Some x → f x ≡ Some y → P) → P
bind None f y P p go = absurd cc
bind (Some x) f y P p go = go x refl p

join_more : (line : List ℕ) (more : List (List ℕ)) → (length more == 0) ≡ false → join_with_byte 10 (line ∷ more) ≡ line ++ 10 ∷ join_with_byte 10 more
join_more line [] some = absurd cc
join_more line (next ∷ more) some = refl

no_bytes : (text : List ℕ) → (length text == 0) ≡ true → text ≡ []
no_bytes [] none = refl
no_bytes (b ∷ text) none = absurd (some_first (length text) none)

-- these lines say these events
pub record EventsSaid (text : List ℕ) (events : List JournalEvent) : Type 0 where
  pub text_is : text ≡ lines_text (map line_of events) ++ line_text End
  pub fits : AllByRecursion IsEvent events

ended : (line : List ℕ) (more : List (List ℕ)) → (length more == 0) ≡ false → bytes_eq line (codes "end") ≡ true → (length (join_with_byte 10 more) == 0) ≡ true → EventsSaid (join_with_byte 10 (line ∷ more)) []
ended line more some is_end none = record {
  text_is = join_more line more some ∙ ap (λ (xs : List ℕ). xs ++ 10 ∷ join_with_byte 10 more) ((bytes_eq-Decides line (codes "end")).0 is_end) ∙ ap (λ (xs : List ℕ). codes "end" ++ 10 ∷ xs) (no_bytes (join_with_byte 10 more) none);
  fits = tt;
}

one_more : (line : List ℕ) (more : List (List ℕ)) (event : JournalEvent) (events : List JournalEvent) → (length more == 0) ≡ false → LineSaid line event → EventsSaid (join_with_byte 10 more) events → EventsSaid (join_with_byte 10 (line ∷ more)) (event ∷ events)
one_more line more event events some one rest = record {
  text_is =
      join_more line more some
      ∙ ap (λ (xs : List ℕ). xs ++ 10 ∷ join_with_byte 10 more) one.text_is
      ∙ ap (λ (xs : List ℕ). spaced (event_words event) ++ 10 ∷ xs) rest.text_is
      ∙ sym (append_assoc (spaced (event_words event)) (10 ∷ []) (lines_text (map line_of events) ++ line_text End))
      ∙ sym (append_assoc (line_text (line_of event)) (lines_text (map line_of events)) (line_text End));
  fits = (one.fits, rest.fits);
}

-- the first event and the others
record Began (r : Result (List JournalEvent) ℕ) (o : Option JournalEvent) (events : List JournalEvent) : Type 0 where
  event : JournalEvent
  others : List JournalEvent
  says : o ≡ Some event
  more : r ≡ Ok others
  events_are : events ≡ event ∷ others

began : (number : ℕ) (r : Result (List JournalEvent) ℕ) (o : Option JournalEvent) (events : List JournalEvent) → one_event number o r ≡ Ok events → Began r o events
began number r None events p = absurd cc
began number (Ok others) (Some event) events p = record { event = event; others = others; says = refl; more = refl; events_are = cc }
began number (Err line) (Some event) events p = absurd cc

events_said : (lines : List (List ℕ)) (number : ℕ) (events : List JournalEvent) → events_in number lines ≡ Ok events → EventsSaid (join_with_byte 10 lines) events
events_said [] number events p = absurd cc
events_said (line ∷ more) number events p =
    let here : List JournalEvent → Type 0 = λ es. EventsSaid (join_with_byte 10 (line ∷ more)) es in
    branch (length more == 0) _ _ (Ok events) (here events) p (λ none q. absurd cc) (λ some q.
    branch (bytes_eq line (codes "end")) _ _ (Ok events) (here events) q
    (λ is_end r. branch (length (join_with_byte 10 more) == 0) _ _ (Ok events) (here events) r
    (λ none s. let e : [] ≡ events = cc in subst here e (ended line more some is_end none))
    (λ behind s. absurd cc))
    (λ other r.
    let b = began number (events_in (number + 1) more) (event_of line) events r in
    subst here (sym b.events_are) (one_more line more b.event b.others some (event_said line b.event b.says) (events_said more (number + 1) b.others b.more))))

-- this line says this head
pub record HeadSaid (line : List ℕ) (head : HeadData) : Type 0 where
  pub text_is : line ≡ spaced (line_words (Head head))
  pub whole : IsJournalHead head

whole_said : (width height pictures seconds : ℕ) (head : HeadData) (line : List ℕ) → pictures < 2 ^ 32 → seconds < 2 ^ 32 → whole_head width height pictures seconds ≡ Some head
    → line ≡ spaced (codes "salsify" ∷ codes "1" ∷ decimal width ∷ decimal height ∷ decimal pictures ∷ decimal seconds ∷ []) → HeadSaid line head
whole_said width height pictures seconds head line few short p is =
    branch (nat_le 1 width && nat_le width 1280 && nat_le 1 height && nat_le height 720 && nat_le 1 pictures && nat_le 1 seconds) _ _ (Some head) (HeadSaid line head) p
    (λ inside q.
    let a = and_parts _ _ inside in
    let b = and_parts _ _ a.0 in
    let c = and_parts _ _ b.0 in
    let d = and_parts _ _ c.0 in
    let e = and_parts _ _ d.0 in
    let here : record { width = width; height = height; rate = (pictures, seconds) } ≡ head = cc in
    subst (λ (h : HeadData). HeadSaid line h) here (record {
      text_is = is;
      whole = record {
        sides = record { wide = leb-true _ _ e.0; not_wider = leb-true _ _ e.1; high = leb-true _ _ d.1; not_higher = leb-true _ _ c.1 };
        pictures = (leb-true _ _ b.1, few);
        seconds = (leb-true _ _ a.1, short);
      };
    }))
    (λ outside q. absurd cc)

head_said : (line : List ℕ) (head : HeadData) → head_of line ≡ Some head → HeadSaid line head
head_said line head p =
    bind (next_word (words_in line)) _ head (HeadSaid line head) p (λ word at0 q.
    branch (bytes_eq word.0 (codes "salsify")) _ _ (Some head) (HeadSaid line head) q (λ is_salsify r.
    bind (next_word word.1) _ head (HeadSaid line head) r (λ version at1 s.
    bind (cond (bytes_eq version.0 (codes "1")) (small_and version.1) None) _ head (HeadSaid line head) s (λ width at2 t.
    branch (bytes_eq version.0 (codes "1")) _ _ (Some width) (HeadSaid line head) at2 (λ is_one at3.
    bind (small_and width.1) _ head (HeadSaid line head) t (λ height at4 u.
    bind (small_and height.1) _ head (HeadSaid line head) u (λ pictures at5 v.
    bind (last_number 32 pictures.1) _ head (HeadSaid line head) v (λ seconds at6 w.
    let a = small_said version.1 width at3 in
    let b = small_said width.1 height at4 in
    let c = small_said height.1 pictures at5 in
    let d = last_number_said 32 pictures.1 seconds (lit≤ tt) at6 in
    whole_said width.0 height.0 pictures.0 seconds head line c.fits d.fits w
    (sym (join_with_byte-slice_split 32 line) ∙ ap spaced
    (next_said (words_in line) word at0 ∙ onto _ _ _ _ ((bytes_eq-Decides word.0 (codes "salsify")).0 is_salsify)
    (next_said word.1 version at1 ∙ onto _ _ _ _ ((bytes_eq-Decides version.0 (codes "1")).0 is_one)
    (a.words_are ∙ onto _ _ _ _ refl (b.words_are ∙ onto _ _ _ _ refl (c.words_are ∙ onto _ _ _ _ refl d.words_are))))))))))
    (λ other at3. absurd cc))))
    (λ other r. absurd cc))

record Headed (o : Option HeadData) (r : Result (List JournalEvent) ℕ) (told : Told) : Type 0 where
  head : HeadData
  events : List JournalEvent
  says : o ≡ Some head
  more : r ≡ Ok events
  told_is : record { head = head; events = events } ≡ told

headed : (o : Option HeadData) (r : Result (List JournalEvent) ℕ) (told : Told) → with_head o r ≡ Ok told → Headed o r told
headed None r told p = absurd cc
headed (Some head) (Ok events) told p = record { head = head; events = events; says = refl; more = refl; told_is = cc }
headed (Some head) (Err line) told p = absurd cc

told_said : (lines : List (List ℕ)) (told : Told) → told_by lines ≡ Ok told → IsJournal (join_with_byte 10 lines) told
told_said [] told p = absurd cc
told_said (line ∷ more) told p =
    branch (length more == 0) _ _ (Ok told) (IsJournal (join_with_byte 10 (line ∷ more)) told) p (λ none q. absurd cc) (λ some q.
    let b = headed (head_of line) (events_in 2 more) told q in
    let first = head_said line b.head b.says in
    let rest = events_said more 2 b.events b.more in
    subst (λ (t : Told). IsJournal (join_with_byte 10 (line ∷ more)) t) b.told_is (record {
      text_is =
          join_more line more some
          ∙ ap (λ (xs : List ℕ). xs ++ 10 ∷ join_with_byte 10 more) first.text_is
          ∙ ap (λ (xs : List ℕ). spaced (line_words (Head b.head)) ++ 10 ∷ xs) rest.text_is
          ∙ sym (append_assoc (spaced (line_words (Head b.head))) (10 ∷ []) (lines_text (map line_of b.events) ++ line_text End));
      whole = first.whole;
      fits = rest.fits;
    }))

pub journal_said : (text : List ℕ) (told : Told) → journal_of text ≡ Ok told → IsJournal text told
journal_said text told p = subst (λ (t : List ℕ). IsJournal t told) (join_with_byte-slice_split 10 text) (told_said (lines_in text) told p)

-- ---- apart

told_head : Result Told ℕ → HeadData → HeadData
told_head (Ok told) head = told.head
told_head (Err line) head = head

told_events : Result Told ℕ → List JournalEvent
told_events (Ok told) = told.events
told_events (Err line) = []

pub journals_apart : (head other_head : HeadData) (events others : List JournalEvent) → IsJournalHead head → IsJournalHead other_head → AllByRecursion IsEvent events → AllByRecursion IsEvent others
    → journal_text head (map line_of events) ≡ journal_text other_head (map line_of others) → (head ≡ other_head) × (events ≡ others)
unfolding told_head told_events
journals_apart head other_head events others whole other_whole fits other_fits same =
    let told = sym (journal_back head events whole fits) ∙ ap journal_of same ∙ journal_back other_head others other_whole other_fits in
    (ap (λ r. told_head r head) told, ap told_events told)
