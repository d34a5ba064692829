-- What holds where a call isn't refused: the tests of each call, none of which held, as a record of facts.
use mathlib.Core.Path.{◌≡◌, refl}
use mathlib.Core.Bool.{Bool, true, false, not, ◌&&◌, ◌||◌}
use mathlib.Core.List.{List, [], ◌∷◌}
use mathlib.Core.Logic.{◌≢◌}
use mathlib.Core.Option.{Option, none, some}
use Prim.Native.Nat.{ℕ, ◌≤◌, ◌<◌}
use native.Mathlib.Omega.{arith}
use borrow.Author.Tests.{eqb-true, eq-eqb, ne_eqb, leb-true, le-leb, ltb-true, not-false}
use lib.Dec.{eqb, leb}
use lib.ListN.{length}
use Rattle.interface.specs.declared.Session.{Session}
use Rattle.lists.specs.Lists.{first, every}
use Rattle.sector.specs.Contents.{Bytes, Entry}
use Rattle.sector.specs.Entries.{for_file}
use Rattle.lists.proofs.ListLaws.{and_left, and_right, and_both, or_right, or_none, no_both, all_nil, all_cons, all_at, every_from, every_all}
use Rattle.lists.proofs.CaseLaws.{by_test, by_equal, if_test}
use Rattle.lists.proofs.SearchLaws.{or_true, every_implies, first_none}
use Rattle.volume.specs.Places.{is_client, is_file, file_at}
use Rattle.volume.specs.Views.{View}
use Rattle.volume.specs.Lawful.{lawful}
use Rattle.volume.proofs.PlaceLaws.{IsFile, client_of, file_of}
use Rattle.volume.proofs.LawfulLaws.{RecordFacts, HeaderFacts, Lawful, lawful_facts, record_facts, entry_facts}
use Rattle.rules.specs.Sessions.{holds, holds_either, is_active, is_reading, is_read_by_other, mark_fits, hold_fits, marks_fit, client_holds_fit, holds_fit, session_fits}
use Rattle.rules.specs.Recovery.{is_decided}
use Rattle.rules.specs.Plans.{Call, begin, open_file, open_read, write, commit, abort, Query, read_page, look_page, entry_for, slot_for, free_slots, held_by_orphan}
use Rattle.rules.specs.Refusals.{held_by_other, is_new_page, page_missing, read_only, tests, query_tests}
use Rattle.rules.proofs.ContentLaws.{map_below}

-- ------------------------------------------------------------------ sessions
-- Client j is marked.
pub record Active (s : Session) (j : ℕ) : Type 0 where
  pub low : 1 ≤ j
  pub high : j ≤ 4
  pub on : is_active s j ≡ true

-- Another client than k is marked. No client is 0, so with that for k it is any.
pub record Others (s : Session) (k j : ℕ) : Type 0 where
  pub active : Active s j
  pub other : j ≢ k

-- Client j has a transaction running in the volume.
pub record Running (a : View) (j : ℕ) : Type 0 where
  pub client : j ≤ a.table.clients
  pub state : (a.records j).state ≡ 1
  pub mine : every (λ e. eqb (a.headers e.file).holder j) (a.records j).entries ≡ true

-- It isn't decided, and has no entry for a file that it doesn't hold.
pub running_undecided : {a : View} {j : ℕ} → Running a j → is_decided a j ≡ false
running_undecided r = rw r.state

pub running_foreign : {a : View} {j : ℕ} → Running a j → (f : ℕ) → (a.headers f).holder ≢ j
    → (t : Entry → Bool) → every (λ e. not (for_file f e && t e)) (a.records j).entries ≡ true
running_foreign {a} {j} r f n t =
    every_implies (λ e. eqb (a.headers e.file).holder j) (λ e. not (for_file f e && t e))
    (λ e x.
    let held : (a.headers e.file).holder ≡ j = eqb-true _ _ x in
    by_equal e.file f (λ y. absurd (n (rw y at held))) (λ y. rw (ne_eqb e.file f y)))
    (a.records j).entries r.mine

-- ------------------------------------------------------------------ reading holds
-- Client j holds file f for reading.
pub record Reader (s : Session) (j f : ℕ) : Type 0 where
  pub low : 1 ≤ j
  pub high : j ≤ 4
  pub first : 1 ≤ f
  pub last : f ≤ 16
  pub on : is_reading s j f ≡ true

-- What its hold relies on: it is active, and the file is there and has no holder.
pub record Shared (a : View) (s : Session) (j f : ℕ) : Type 0 where
  pub active : is_active s j ≡ true
  pub file : f ≤ length a.table.files
  pub free : (a.headers f).holder ≡ 0

-- Neither refusal 1 nor refusal 2.
pub record Ready (a : View) (s : Session) : Type 0 where
  pub laws : Lawful a.table a
  pub runs : (j : ℕ) → Active s j → Running a j
  pub reads : (j f : ℕ) → Reader s j f → Shared a s j f

pub ready : (a : View) (s : Session) → lawful a ≡ true → session_fits a s ≡ true → Ready a s
unfolding session_fits mark_fits client_holds_fit hold_fits
ready a s l fits = record {
  laws = lawful_facts a l;
  runs = λ j w.
      let e : mark_fits a j ≡ true = or_right (not (is_active s j)) (mark_fits a j)
      (every_from (λ k. not (is_active s k) || mark_fits a k) 4 1 (and_left (marks_fit a s) _ fits) j w.low (omega (arith, w.high))) (rw w.on) in
      record { client = leb-true _ _ (all_at _ 0 e); state = eqb-true _ _ (all_at _ 1 e); mine = all_at _ 2 e };
  reads = λ j f x.
      let e : hold_fits a s j f ≡ true = or_right (not (is_reading s j f)) (hold_fits a s j f)
      (every_from (λ g. not (is_reading s j g) || hold_fits a s j g) 16 1
      (every_from (client_holds_fit a s) 4 1 (and_right (marks_fit a s) _ fits) j x.low (omega (arith, x.high))) f x.first (omega (arith, x.last)))
      (rw x.on) in
      record { active = all_at _ 0 e; file = leb-true _ _ (all_at _ 1 e); free = eqb-true _ _ (all_at _ 2 e) };
}

-- A session fits whose marked clients have a transaction running, and whose reading holds have what they rely on.
pub running_fits : (a : View) (s : Session) → ((j : ℕ) → Active s j → Running a j) → ((j f : ℕ) → Reader s j f → Shared a s j f)
    → session_fits a s ≡ true
unfolding session_fits mark_fits client_holds_fit hold_fits
running_fits a s runs reads = and_both (marks_fit a s) (holds_fit a s)
    (every_all _ 4 1
    (λ j lo hi. by_test (is_active s j)
    (λ on.
    let r : Running a j = runs j (record { low = lo; high = omega arith; on = on }) in
    or_true (not (is_active s j)) (mark_fits a j)
    (all_cons _ (le-leb _ _ r.client) (all_cons _ (eq-eqb _ _ r.state) (all_cons _ r.mine all_nil))))
    (λ off. rw off)))
    (every_all _ 4 1
    (λ j lo hi. every_all _ 16 1
    (λ f first last. by_test (is_reading s j f)
    (λ on.
    let r : Shared a s j f = reads j f (record { low = lo; high = omega arith; first = first; last = omega arith; on = on }) in
    or_true (not (is_reading s j f)) (hold_fits a s j f)
    (all_cons _ r.active (all_cons _ (le-leb _ _ r.file) (all_cons _ (eq-eqb _ _ r.free) all_nil))))
    (λ off. rw off))))

-- ------------------------------------------------------------------ each call
-- Begin.
pub record MayBegin (a : View) (s : Session) (k : ℕ) : Type 0 where
  pub ready : Ready a s
  pub low : 1 ≤ k
  pub high : k ≤ a.table.clients
  pub off : is_active s k ≡ false

-- Commit and abort: what every call of an active client has.
pub record MayAct (a : View) (s : Session) (k : ℕ) : Type 0 where
  pub ready : Ready a s
  pub active : Active s k
  pub running : Running a k

-- Open for reading, and what every open has.
pub record MayOpenRead (a : View) (s : Session) (k f : ℕ) : Type 0 where
  pub act : MayAct a s k
  pub file : IsFile a.table f
  pub free : held_by_other a s k f ≡ false

pub record MayOpen (a : View) (s : Session) (k f : ℕ) : Type 0 where
  pub either : MayOpenRead a s k f
  pub unread : is_read_by_other s k f ≡ false

pub record MayRead (a : View) (s : Session) (k f p : ℕ) : Type 0 where
  pub act : MayAct a s k
  pub file : IsFile a.table f
  pub hold : holds_either a s k f ≡ true
  pub page : p < (file_at a.table f).pages

pub record MayWrite (a : View) (s : Session) (k f p : ℕ) (d : Bytes) : Type 0 where
  pub place : MayRead a s k f p
  pub holder : (a.headers f).holder ≡ k
  pub size : length d ≡ 256
  pub room : (is_new_page a k f p && eqb (length (free_slots a k f)) 0) ≡ false
  pub few : (is_new_page a k f p && eqb (length (a.records k).entries) 62) ≡ false

abbrev pub Allowed : View → Session → Call → Type 0
Allowed a s (begin k) = MayBegin a s k
Allowed a s (open_file k f) = MayOpen a s k f
Allowed a s (open_read k f) = MayOpenRead a s k f
Allowed a s (write k f p d) = MayWrite a s k f p d
Allowed a s (commit k) = MayAct a s k
Allowed a s (abort k) = MayAct a s k

-- A look: what every question about a page has.
pub record MayLook (a : View) (f p : ℕ) : Type 0 where
  pub laws : Lawful a.table a
  pub file : IsFile a.table f
  pub page : p < (file_at a.table f).pages

abbrev pub Answerable : View → Session → Query → Type 0
Answerable a s (read_page k f p) = MayRead a s k f p
Answerable a s (look_page f p) = MayLook a f p

-- The record of an active client.
pub own_record : {a : View} {s : Session} {k : ℕ} → MayAct a s k → RecordFacts a.table (a.records k)
own_record {k = k} w = record_facts (w.ready.laws.records k w.active.low w.running.client)

-- A client that may read a file which it doesn't hold for writing holds it for reading.
pub read_holder : {a : View} {s : Session} {k f p : ℕ} → MayRead a s k f p → holds a k f ≡ false → Reader s k f
read_holder {a} {s} {k} {f} w e = record {
  low = w.act.active.low;
  high = w.act.active.high;
  first = w.file.low;
  last = omega (arith, w.file.high, w.act.ready.laws.table.files.1);
  on = or_right (holds a k f) (is_reading s k f) w.hold e;
}

-- The slot that a read finds is one of the file's: given by an entry that fits, or by the map.
pub slot_below : {a : View} {s : Session} {k f p : ℕ} → MayRead a s k f p → (o : Option Entry) → entry_for a k f p ≡ o
    → slot_for a f p o < (file_at a.table f).slots
slot_below {f = f} {p = p} w none e = map_below (w.act.ready.laws.headers f w.file).map p w.page
slot_below {f = f} {p = p} w (some x) e = (entry_facts (own_record w.act) f p x e).slot

-- Where open isn't refused, a holder other than k is orphaned, unless there is none: one that is active is refused by 7, one
-- whose record is idle by 1.
pub holder_orphaned : (a : View) (s : Session) (k f : ℕ) → HeaderFacts a.table a.records f (a.headers f)
    → held_by_other a s k f ≡ false → (a.headers f).holder ≢ k → held_by_orphan a s f ≡ not (eqb (a.headers f).holder 0)
holder_orphaned a s k f facts free n = by_equal (a.headers f).holder 0
    (λ e. rw (eq-eqb _ 0 e))
    (λ z.
    let off : is_active s (a.headers f).holder ≡ false = rw (ne_eqb _ 0 z, ne_eqb _ k n) at free in
    rw (ne_eqb _ 0 z, off, (facts.holder z).live))

-- ------------------------------------------------------------------ the order of the tests
-- A refusal that is neither 1 nor 2.
abbrev pub Later : ℕ → Type 0
Later n = (n ≢ 1) × (n ≢ 2)

-- The first test is 1, and the others come later if test 2 isn't among them or doesn't apply. `ok` is what test 1 asks, `fits` what
-- test 2 asks.
pub record Ordered (ok fits : Bool) (xs : List (ℕ × Bool)) : Type 0 where
  rest : List (ℕ × Bool)
  is : xs ≡ (1, not ok) ∷ rest
  later : fits ≡ true → Later (first rest)

first_later : (xs : List (ℕ × Bool)) → every (λ x. leb 3 x.0) xs ≡ true → Later (first xs)
unfolding first
first_later [] e = (omega arith, omega arith)
first_later (x ∷ xs) e =
    let three : 3 ≤ x.0 = leb-true _ _ (and_left (leb 3 x.0) _ e) in
    if_test Later x.1 x.0 (first xs) (λ t. (omega arith, omega arith)) (λ t. first_later xs (and_right (leb 3 x.0) _ e))

-- The second test is 2.
second_later : (fits : Bool) (xs : List (ℕ × Bool)) → every (λ x. leb 3 x.0) xs ≡ true → fits ≡ true → Later (first ((2, not fits) ∷ xs))
unfolding first
second_later fits xs high e = rw e (first_later xs high)

module _ {ok fits : Bool} {xs : List (ℕ × Bool)} (h : Ordered ok fits xs) where
  pub passed_first : first xs ≡ 0 → ok ≡ true
  unfolding first
  passed_first e = by_test ok (λ t. t) (λ n. absurd (omega (arith, rw (h.is, n) at e)))

  pub passed_both : ok ≡ true → fits ≡ true → Later (first xs)
  unfolding first
  passed_both e q = rw (h.is, e) (h.later q)

module _ (ok : Bool) (a : View) (s : Session) where
  second_tests : {xs : List (ℕ × Bool)} (rest : List (ℕ × Bool)) → xs ≡ (1, not ok) ∷ (2, not (session_fits a s)) ∷ rest
      → every (λ x. leb 3 x.0) rest ≡ true → Ordered ok (session_fits a s) xs
  second_tests rest is high = record { rest = _; is = is; later = second_later (session_fits a s) rest high }

  pub ordered : (c : Call) → Ordered ok (session_fits a s) (tests ok a s c)
  unfolding tests
  ordered (begin k) = second_tests _ refl refl
  ordered (open_file k f) = second_tests _ refl refl
  ordered (open_read k f) = second_tests _ refl refl
  ordered (write k f p d) = second_tests _ refl refl
  ordered (commit k) = second_tests _ refl refl
  ordered (abort k) = second_tests _ refl refl

  pub query_ordered : (q : Query) → Ordered ok (session_fits a s) (query_tests ok a s q)
  unfolding query_tests
  query_ordered (read_page k f p) = second_tests _ refl refl
  query_ordered (look_page f p) = record { rest = _; is = refl; later = λ e. first_later _ refl }

-- ------------------------------------------------------------------ from the tests
module _ (ok : Bool) (a : View) (s : Session) (law : ok ≡ true → lawful a ≡ true) where
  is_ready : not ok ≡ false → not (session_fits a s) ≡ false → Ready a s
  is_ready e q = ready a s (law (not-false _ e)) (not-false _ q)

  acting : (k : ℕ) → Ready a s → not (is_client a.table k) ≡ false → not (is_active s k) ≡ false → MayAct a s k
  acting k r e q =
      let i = client_of a.table k (not-false _ e) in
      let w : Active s k = record { low = i.0; high = omega (arith, r.laws.table.four, i.1); on = not-false _ q } in
      record { ready = r; active = w; running = r.runs k w }

  opening : (k f : ℕ) → MayAct a s k → not (is_file a.table f) ≡ false → held_by_other a s k f ≡ false → MayOpenRead a s k f
  opening k f w file free = record { act = w; file = file_of a.table f (not-false _ file); free = free }

  reading : (k f p : ℕ) → MayAct a s k → not (is_file a.table f) ≡ false → not (holds_either a s k f) ≡ false
      → (page_missing a f p).1 ≡ false → MayRead a s k f p
  reading k f p w file hold page = record {
    act = w;
    file = file_of a.table f (not-false _ file);
    hold = not-false _ hold;
    page = ltb-true _ _ (not-false _ page);
  }

  -- A file that is held, and not for reading only, is held for writing.
  writing : (k f : ℕ) → not (holds_either a s k f) ≡ false → (read_only a s k f).1 ≡ false → (a.headers f).holder ≡ k
  writing k f hold only = by_test (holds a k f) (λ e. eqb-true _ _ e)
      (λ e.
      let read : is_reading s k f ≡ true = or_right (holds a k f) (is_reading s k f) (not-false _ hold) e in
      no_both true refl (rw (read, e) at only))

  -- A question that isn't refused.
  pub answerable : (q : Query) → first (query_tests ok a s q) ≡ 0 → Answerable a s q
  unfolding query_tests
  answerable (read_page k f p) e =
      let no = first_none (query_tests ok a s (read_page k f p)) in
      reading k f p (acting k (is_ready (no 0 refl e) (no 1 refl e)) (no 2 refl e) (no 3 refl e)) (no 4 refl e) (no 5 refl e) (no 6 refl e)
  answerable (look_page f p) e =
      let no = first_none (query_tests ok a s (look_page f p)) in
      record {
        laws = lawful_facts a (law (not-false _ (no 0 refl e)));
        file = file_of a.table f (not-false _ (no 1 refl e));
        page = ltb-true _ _ (not-false _ (no 2 refl e));
      }

  -- A call that isn't refused. The tests of commit and abort are the same.
  acts : (k : ℕ) → first (tests ok a s (commit k)) ≡ 0 → MayAct a s k
  unfolding tests
  acts k e =
      let no = first_none (tests ok a s (commit k)) in
      acting k (is_ready (no 0 refl e) (no 1 refl e)) (no 2 refl e) (no 3 refl e)

  pub allowed : (c : Call) → first (tests ok a s c) ≡ 0 → Allowed a s c
  unfolding tests
  allowed (begin k) e =
      let no = first_none (tests ok a s (begin k)) in
      let i = client_of a.table k (not-false _ (no 2 refl e)) in
      record { ready = is_ready (no 0 refl e) (no 1 refl e); low = i.0; high = i.1; off = no 3 refl e }
  allowed (open_file k f) e =
      let no = first_none (tests ok a s (open_file k f)) in
      let free = or_none (held_by_other a s k f) (is_read_by_other s k f) (no 5 refl e) in
      let act = acting k (is_ready (no 0 refl e) (no 1 refl e)) (no 2 refl e) (no 3 refl e) in
      record { either = opening k f act (no 4 refl e) free.0; unread = free.1 }
  allowed (open_read k f) e =
      let no = first_none (tests ok a s (open_read k f)) in
      opening k f (acting k (is_ready (no 0 refl e) (no 1 refl e)) (no 2 refl e) (no 3 refl e)) (no 4 refl e) (no 5 refl e)
  allowed (write k f p d) e =
      let no = first_none (tests ok a s (write k f p d)) in
      record {
        place = reading k f p (acting k (is_ready (no 0 refl e) (no 1 refl e)) (no 2 refl e) (no 3 refl e))
            (no 4 refl e) (no 5 refl e) (no 7 refl e);
        holder = writing k f (no 5 refl e) (no 6 refl e);
        size = eqb-true _ _ (not-false _ (no 8 refl e));
        room = no 9 refl e;
        few = no 10 refl e;
      }
  allowed (commit k) e = acts k e
  allowed (abort k) e = acts k e
