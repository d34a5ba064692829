-- Each prefix of the stores of write keeps what must not be touched; and so does each prefix of commit's after the first,
-- against the view in which the client's record is decided.
-- The slot that a write stores in isn't in the file's map, which is its decided map, and the other active clients have no
-- entry for a file that this one holds. The new entry suits the headers that name the client, since its slot was free.
use mathlib.Core.Path.{◌≡◌, refl, sym, ◌∙◌}
use mathlib.Core.Bool.{true, false, not, ◌&&◌}
use mathlib.Core.List.{List, [], ◌∷◌, ◌++◌}
use mathlib.Core.Logic.{◌≢◌}
use mathlib.Core.Option.{Option, none, some}
use Prim.Native.Nat.{ℕ, ◌<◌}
use native.Mathlib.Omega.{arith}
use borrow.Author.Tests.{eqb-false, eq-eqb, ne_eqb, le-leb, lt-ltb, not-true}
use lib.Dec.{eqb}
use lib.ListN.{length, length-append}
use Rattle.interface.specs.declared.Session.{Session}
use Rattle.lists.specs.Lists.{member}
use Rattle.sector.specs.Contents.{Bytes, Entry, decided_record, appended}
use Rattle.sector.specs.Entries.{for_file, for_page, gives_slot}
use Rattle.lists.proofs.ListLaws.{all_nil, all_cons, find_has}
use Rattle.lists.proofs.CaseLaws.{by_equal, eqb_sym}
use Rattle.lists.proofs.SearchLaws.{every_implies, any_none, none_found, every_end, distinct_end, not_member}
use Rattle.volume.specs.Places.{file_at}
use Rattle.volume.specs.Views.{View, Update, set_record, set_slot, changed}
use Rattle.volume.specs.Lawful.{entry_fits, record_fits, apart}
use Rattle.volume.proofs.PlaceLaws.{IsFile}
use Rattle.volume.proofs.ViewLaws.{Placed}
use Rattle.volume.proofs.LawfulLaws.{Lawful, record_fits_lem, entry_facts, decided_fits, lawful_record}
use Rattle.volume.proofs.AlongLaws.{Along, last, step, along_map}
use Rattle.rules.specs.Recovery.{is_decided, recovery}
use Rattle.rules.specs.Plans.{Call, begin, open_file, open_read, write, commit, abort, entry_for, chosen, write_plan, plan}
use Rattle.rules.specs.Content.{decided_map}
use Rattle.rules.proofs.AllowedLaws.{MayAct, MayWrite, Allowed, running_undecided, running_foreign, own_record}
use Rattle.rules.proofs.ChoiceLaws.{Free, chosen_free}
use Rattle.rules.proofs.ContentLaws.{held_map}
use Rattle.rules.proofs.RecoveryLaws.{decided_view, recovery_decided}
use Rattle.atomicity.proofs.KeepLaws.{Keeps, keeps_self, keep_record, keep_slot}
use Rattle.atomicity.proofs.PlanLaws.{KeptAlong, recovery_along, abort_along, begin_along, open_along, open_read_along}

-- ------------------------------------------------------------------ an active client
module _ {a : View} {s : Session} {k : ℕ} (w : MayAct a s k) where
  -- The files that it holds: their decided map is their map, and none of its slots is given in its record.
  pub own_map : (f : ℕ) → (a.headers f).holder ≡ k → decided_map a f ≡ (a.headers f).map
  own_map f e = held_map a f k e (running_undecided w.running)

  pub own_apart : (f : ℕ) → IsFile a.table f → (a.headers f).holder ≡ k → apart f (a.records k).entries (a.headers f).map ≡ true
  own_apart f i e = rw e at ((w.ready.laws.headers f i).holder (λ z. omega (arith, w.active.low))).away

-- ------------------------------------------------------------------ write
module _ {a : View} {s : Session} {k f p : ℕ} {d : Bytes} (w : MayWrite a s k f p d) where
  act : MayAct a s k
  act = w.place.act

  self : Keeps a s k a
  self = keeps_self act.ready.laws

  slot_placed : (r : ℕ) → r < (file_at a.table f).slots → Placed a.table (set_slot f r d)
  slot_placed r below = (w.place.file, below, w.size)

  slot_kept : (r : ℕ) → member r (a.headers f).map ≡ false → Keeps a s k (changed a (set_slot f r d))
  slot_kept r unmapped = keep_slot self f r d
      (λ q lt. rw (own_map act f w.holder)
      (not_member (a.headers f).map r q unmapped (rw (act.ready.laws.headers f w.place.file).map.size lt)))
      (λ i o. running_foreign (act.ready.runs i o.active) f (λ x. o.other (sym x ∙ w.holder)) (λ e. eqb e.slot r))

  -- The slot of an entry that there is.
  pub entry_unmapped : (e : Entry) → entry_for a k f p ≡ some e → member e.slot (a.headers f).map ≡ false
  entry_unmapped e found =
      let x = find_has (for_page f p) (λ e. not (for_file f e && member e.slot (a.headers f).map)) (a.records k).entries e found
      (own_apart act f w.place.file w.holder) in
      let file : for_file f e ≡ true = eq-eqb _ _ (entry_facts (own_record act) f p e found).file in
      rw file at (not-true (for_file f e && member e.slot (a.headers f).map) x.1)

  -- ------------------------------------------------------------------ a new entry
  abbrev entry_in : ℕ → Entry
  entry_in r = record { file = f; page = p; slot = r }

  module _ (r : ℕ) (new : entry_for a k f p ≡ none) (free : Free a k f r) (few : length (a.records k).entries < 62) where
    grown_fits : record_fits a.table (appended (a.records k) (entry_in r)) ≡ true
    grown_fits =
        let fits : entry_fits a.table (entry_in r) ≡ true = all_cons _ (le-leb _ _ w.place.file.low) (all_cons _
        (le-leb _ _ w.place.file.high) (all_cons _ (lt-ltb _ _ w.place.page) (all_cons _ (lt-ltb _ _ free.below) all_nil))) in
        record_fits_lem {t = a.table} {r = appended (a.records k) (entry_in r)} (record {
          state = (own_record act).state;
          few = rw length-append (omega arith);
          fit = every_end (entry_fits a.table) (a.records k).entries (entry_in r) (own_record act).fit fits;
          pages = distinct_end (λ e d. for_page e.file e.page d) (a.records k).entries (entry_in r) (own_record act).pages
              (every_implies (λ e. not (for_page f p e)) (λ e. not (for_page e.file e.page (entry_in r)))
              (λ e h. rw (eqb_sym f e.file, eqb_sym p e.page) h) (a.records k).entries
              (none_found (for_page f p) (a.records k).entries new));
          slots = distinct_end (λ e d. gives_slot e.file e.slot d) (a.records k).entries (entry_in r) (own_record act).slots
              (every_implies (λ e. not (gives_slot f r e)) (λ e. not (gives_slot e.file e.slot (entry_in r)))
              (λ e h. rw (eqb_sym f e.file, eqb_sym r e.slot) h) (a.records k).entries
              (any_none (gives_slot f r) (a.records k).entries free.ungiven));
          idle = rw act.running.state;
        })

    grown_apart : (g : ℕ) → IsFile a.table g → (a.headers g).holder ≡ k
        → apart g ((a.records k).entries ++ (entry_in r ∷ [])) (a.headers g).map ≡ true
    grown_apart g i e = every_end (λ x. not (for_file g x && member x.slot (a.headers g).map)) (a.records k).entries (entry_in r)
        (own_apart act g i e) (by_equal f g (λ q. rw (eq-eqb f g q, ← q, free.unmapped)) (λ n. rw (ne_eqb f g n)))

    grown_kept : Keeps a s k (changed (changed a (set_slot f r d)) (set_record k (appended (a.records k) (entry_in r))))
    grown_kept =
        let undecided : is_decided a k ≡ false = running_undecided act.running in
        keep_record (slot_kept r free.unmapped) k (appended (a.records k) (entry_in r)) grown_fits
        (λ g i e. (rw act.running.state, grown_apart g i e, undecided, undecided)) (λ i o. o.other)

    new_along : KeptAlong a s k a (set_slot f r d ∷ set_record k (appended (a.records k) (entry_in r)) ∷ [])
    new_along = step self (slot_placed r free.below) (step {x = set_record k (appended (a.records k) (entry_in r))}
        (slot_kept r free.unmapped) (act.active.low, act.running.client, grown_fits) (last grown_kept))

  pub new_free : entry_for a k f p ≡ none → Free a k f (chosen a k f p)
  new_free new = chosen_free a k f p (rw new at w.room)

  pub write_along : (o : Option Entry) → entry_for a k f p ≡ o → KeptAlong a s k a (write_plan a k f p d o)
  write_along (some e) found =
      step self (slot_placed e.slot (entry_facts (own_record act) f p e found).slot)
      (last (slot_kept e.slot (entry_unmapped e found)))
  write_along none new =
      let full : length (a.records k).entries ≢ 62 = eqb-false _ _ (rw new at w.few) in
      new_along (chosen a k f p) new (new_free new) (omega (arith, (own_record act).few))

-- ------------------------------------------------------------------ commit
module _ {a : View} {s : Session} {k : ℕ} (w : MayAct a s k) where
  decided_placed : Placed a.table (set_record k (decided_record (a.records k)))
  decided_placed = (w.active.low, w.running.client, decided_fits (own_record w))

  decided_laws : Lawful a.table (decided_view a k)
  decided_laws = lawful_record w.ready.laws k (decided_record (a.records k)) (decided_fits (own_record w))
      (λ f i e. (refl, own_apart w f i e))

  pub commit_along : KeptAlong (decided_view a k) s k (decided_view a k) (recovery true a k)
  commit_along = rw (recovery_decided a k) (recovery_along s k decided_laws w.active.low w.running.client)

-- ------------------------------------------------------------------ every call
-- The view is lawful before each update and after the last, and each update has its place.
kept_lawful : {a₀ a : View} {s : Session} {k : ℕ} {xs : List Update} → KeptAlong a₀ s k a xs
    → Along a₀.table (Lawful a₀.table) a xs
kept_lawful = along_map (λ b kept. kept.laws)

pub plan_lawful : (a : View) (s : Session) (c : Call) → Allowed a s c → Along a.table (Lawful a.table) a (plan a s c)
unfolding plan
plan_lawful a s (begin k) w = kept_lawful (begin_along w)
plan_lawful a s (open_file k f) w = kept_lawful (open_along w.either)
plan_lawful a s (open_read k f) w = kept_lawful (open_read_along w)
plan_lawful a s (write k f p d) w = kept_lawful (write_along w (entry_for a k f p) refl)
plan_lawful a s (commit k) w = step w.ready.laws (decided_placed w) (kept_lawful (commit_along w))
plan_lawful a s (abort k) w = kept_lawful (abort_along w)
