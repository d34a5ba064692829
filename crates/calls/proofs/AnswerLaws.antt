-- How a call ends, put together: a refusal is the call's, and the stores of its plan under the budget are what it leaves and
-- answers. The definition of a call is taken apart at its two choices, the refusal and the budget.
use mathlib.Core.Path.{◌≡◌, refl, sym, ap, ◌∙◌}
use mathlib.Core.List.{List}
use Prim.Native.Nat.{ℕ, zero, suc, ◌≤◌, ◌<◌}
use native.Mathlib.Nat.{not-suc-le-zero}
use native.Mathlib.Omega.{arith}
use borrow.Author.Tests.{ltb-true, ltb-false, le-leb, lt-leb}
use lib.Dec.{ltb}
use lib.ListN.{length, take}
use lib.Seq.{take_all, length-take-le}
use Rattle.interface.specs.declared.Session.{Session}
use Rattle.interface.specs.declared.Refusal.{Refusal}
use Rattle.interface.specs.Answers.{refused, query_refused, count_refused, refusal_number}
use Rattle.lists.specs.Lists.{first}
use Rattle.volume.specs.Volumes.{Volume, view}
use Rattle.volume.specs.Sound.{sound}
use Rattle.volume.specs.Stores.{Store, cut_at, all_stores}
use Rattle.rules.specs.Plans.{Call, Query, plan, session_after}
use Rattle.rules.specs.Refusals.{tests, query_tests}
use Rattle.rules.specs.Calls.{call_by, call, query_by, query}
use Rattle.rules.specs.Spare.{spare_tests, spare_by, spare}
use Rattle.std.specs.Prelude.{Result, Ok, Err, is_err}
use Rattle.lists.specs.Lists.{when◌then◌else◌}
use Rattle.lists.proofs.CaseLaws.{by_test}
use Rattle.stores.specs.declared.Run.{Run}
use Rattle.stores.specs.declared.Crashed.{Crashed}
use Rattle.stores.specs.Runs.{new_run, UpdatesMade}
use Rattle.stores.proofs.RunLaws.{run_new}
use Rattle.checks.proofs.VerdictLaws.{numbered}
use Rattle.calls.specs.Replies.{ended_by}

-- What two functions agree on above 0 they agree on at a refusal's number.
at_refusal : {A : Type 0} (g h : ℕ → A) → ((n : ℕ) → g (suc n) ≡ h (suc n)) → (r : Refusal) → g (refusal_number r) ≡ h (refusal_number r)
at_refusal g h same r = go (refusal_number r) (numbered r)
  where
    go : (n : ℕ) → 1 ≤ n → g n ≡ h n
    go zero l = absurd (not-suc-le-zero l)
    go (suc n) l = same n

-- A refused call changes nothing.
pub refused_call : (v : Volume) (s : Session) (c : Call) (budget : ℕ) (r : Refusal)
    → refusal_number r ≡ first (tests (sound v) (view v) s c)
    → record { answer = refused (refusal_number r); session = s; volume = v } ≡ call v s c budget
unfolding call
refused_call v s c budget r e =
    at_refusal (λ n. record { answer = refused n; session = s; volume = v }) (λ n. call_by n v s c budget) (λ n. refl) r
    ∙ ap (λ (n : ℕ). call_by n v s c budget) e

-- A call that isn't refused makes the stores of its plan.
module _ (v : Volume) (s : Session) (c : Call) (budget : ℕ) (e : 0 ≡ first (tests (sound v) (view v) s c)) where
  abbrev xs : List Store
  xs = all_stores (view v).table (plan (view v) s c)

  -- What a new run comes to.
  abbrev run : Result Run Crashed
  run =
      when ltb budget (length xs) then Err (record { made = length (take budget xs) })
      else Ok (record { budget = budget; made = length (take budget xs) })

  -- A run that made so many stores, and crashed where there were more, ends as the call does.
  abbrev stores_of_run : Result Run Crashed → ℕ
  stores_of_run (Ok r) = r.made
  stores_of_run (Err d) = d.made

  ended_by_lem : (w : Volume) (q : Result Run Crashed) → w ≡ cut_at v xs budget → stores_of_run q ≡ length (take budget xs)
      → is_err q ≡ ltb budget (length xs) → ended_by q (session_after (view v) s c) w ≡ call v s c budget
  unfolding call
  ended_by_lem w (Err d) left count over =
      let more : budget < length xs = ltb-true budget (length xs) (sym over) in
      let all : d.made ≡ budget = count ∙ length-take-le budget xs (omega arith) in
      rw (← e, lt-leb (length xs) budget more, all, left)
  ended_by_lem w (Ok r) left count over =
      let room : length xs ≤ budget = ltb-false budget (length xs) (sym over) in
      let all : take budget xs ≡ xs = take_all budget xs room in
      let made : r.made ≡ length xs = count ∙ ap length all in
      rw (← e, le-leb (length xs) budget room, made, left)

  ended_run : ended_by run (session_after (view v) s c) (cut_at v xs budget) ≡ call v s c budget
  ended_run = by_test (ltb budget (length xs))
      (λ g. rw g (ended_by_lem _ (Err (record { made = length (take budget xs) })) refl refl (sym g)))
      (λ g. rw g (ended_by_lem _ (Ok (record { budget = budget; made = length (take budget xs) })) refl refl (sym g)))

  pub ended_call : (w : Volume) (q : Result Run Crashed) → UpdatesMade v (Ok (new_run budget)) (plan (view v) s c) w q
      → ended_by q (session_after (view v) s c) w ≡ call v s c budget
  ended_call w q m =
      ap (λ (p : Volume × Result Run Crashed). ended_by p.1 (session_after (view v) s c) p.0) (m.stores ∙ run_new budget xs v) ∙ ended_run

-- A refused question.
pub refused_query : (v : Volume) (s : Session) (q : Query) (r : Refusal)
    → refusal_number r ≡ first (query_tests (sound v) (view v) s q) → query_refused (refusal_number r) ≡ query v s q
unfolding query
refused_query v s q r e = at_refusal query_refused (λ n. query_by n (view v) q) (λ n. refl) r ∙ ap (λ (n : ℕ). query_by n (view v) q) e

-- A refused question for a count.
pub refused_count : (v : Volume) (f : ℕ) (r : Refusal) → refusal_number r ≡ first (spare_tests v f) → count_refused (refusal_number r) ≡ spare v f
unfolding spare
refused_count v f r e = at_refusal count_refused (λ n. spare_by n v f) (λ n. refl) r ∙ ap (λ (n : ℕ). spare_by n v f) e
