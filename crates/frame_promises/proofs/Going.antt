-- What holds of the history while a frame runs: the jobs whose spans have ended have reported their own values, but for those that are still
-- out. Each event is accepted and keeps it so. Assumes nothing.
use Prim.Native.Nat.{ℕ, ◌+◌, ◌≤◌, ◌<◌}
use native.Mathlib.Omega.{arith}
use native.Mathlib.Nat.{eq-or-lt_of_le}
use native.Mathlib.Numerals.{add-one}
use mathlib.Core.Path.{◌≡◌, refl, sym, ◌∙◌, ap, subst}
use mathlib.Core.Bool.{Bool, true, false, cond}
use mathlib.Core.Logic.{inl, inr}
use mathlib.Core.List.Memᴰ
use mathlib.Core.List.{List, [], ◌∷◌, Memᴰ}
use Rattle.std.specs.Prelude.{Some}
use borrow.Author.Tests.{ltb-true, ltb-false, le-ltb, le-leb, eq-eqb, ne_eqb}
use lib.ListN.{length, get_or, drop}
use lib.Seq.{drop-cons}
use lib.Dec.{ltb}
use lib.Ieee.{Float}
use Rattle.model.proofs.Lists.{clash}
use Rattle.records.specs.Records.{used}
use Rattle.table.specs.Tables.{JobTable}
use Rattle.plan.specs.declared.Step.{Step}
use Rattle.plan.specs.Plans.{step_id, no_step, step_of}
use Rattle.frame_record.specs.Finite.{finite?}
use Rattle.frame_record.specs.Answers.{Reply}
use Rattle.frame_promises.specs.Call.{event}
use Rattle.frame_record.specs.declared.Event.TheVariants as E
use Rattle.frame_begin.proofs.Passed.{PlanFits}
use Rattle.frame_promises.specs.History.{Turn, Report, Last, History, idle, opened, closed, done, on_clock, span_ends, fresh, reads, reply}
use Rattle.frame_promises.specs.History.{since, span_ended, without, accepts, is_accepted, told, report_of}
use Rattle.frame_promises.specs.Own.{Doing, doing_at, id_at, away_at, value_at, span_time, back_time, Quiet, asks_next, asks_read, asks_begin}
use Rattle.frame_promises.specs.Own.{other_number, is_refused, span_call, back_call}
use Rattle.frame_promises.proofs.Laws.{used_head, used_tail, without_other, report_same, report_other, in_table}

module _ (number : ℕ) (t : JobTable) (xs : List Step) (p : PlanFits t xs) (ds : List Doing)
    (counted : length xs ≡ length ds) (step_is : (k : ℕ) → get_or xs k no_step ≡ step_of (doing_at ds k).took.what) where
  abbrev D : ℕ
  D = t.deadline

  id_is : (k : ℕ) → (get_or xs k no_step).id ≡ id_at ds k
  id_is k = ap step_id (step_is k)

  away_is : (k : ℕ) → (get_or xs k no_step).away ≡ away_at ds k
  away_is k = ap (λ (x : Step). x.away) (step_is k)

  -- the ids of two jobs differ
  below_differ : (i k : ℕ) → i < k → k < length ds → id_at ds i ≡ id_at ds k → ⊥
  below_differ i k h q e = p.steps_differ i k h (omega (arith, counted)) (id_is i ∙ e ∙ sym (id_is k))

  differ : (i k : ℕ) → i < length ds → k < length ds → (i ≡ k → ⊥) → id_at ds i ≡ id_at ds k → ⊥
  differ i k h q other e = step (ltb i k) refl (ltb k i) refl
    where
      step : (x : Bool) → ltb i k ≡ x → (y : Bool) → ltb k i ≡ y → ⊥
      step true a y b = below_differ i k (ltb-true i k a) q e
      step false a true b = below_differ k i (ltb-true k i b) h (sym e)
      step false a false b = other (omega (arith, ltb-false i k a, ltb-false k i b))

  -- the k-th job has reported its own value, in time
  record Holds (rs : List Report) (k : ℕ) : Type 0 where
    time : ℕ
    early : time ≤ D
    report : report_of rs (id_at ds k) ≡ Some (record { job = id_at ds k; time = time; value = value_at ds k })

  holds_new : (rs : List Report) (k time : ℕ) → time ≤ D → Holds (record { job = id_at ds k; time = time; value = value_at ds k } ∷ rs) k
  holds_new rs k time early = record { time = time; early = early; report = report_same _ rs (id_at ds k) refl }

  holds_still : (rs : List Report) (r : Report) (k : ℕ) → (r.job ≡ id_at ds k → ⊥) → Holds rs k → Holds (r ∷ rs) k
  holds_still rs r k other h = record { time = h.time; early = h.early; report = report_other r rs (id_at ds k) other ∙ h.report }

  pub record Going (n : ℕ) (home : List ℕ) (now : ℕ) (b : Last) : Type 0 where
    numbered : b.number ≡ number
    tabled : b.table ≡ t
    coming : b.to_come ≡ drop n xs
    few : n ≤ length ds
    clocked : b.clock ≤ now
    in_time : now ≤ D
    here : (k : ℕ) → k < n → away_at ds k ≡ false → Holds b.reports k
    back : (k : ℕ) → Memᴰ k home → (k < n) × Holds b.reports k
    out : (k : ℕ) → k < n → away_at ds k ≡ true → (Memᴰ k home → ⊥) → used b.out (id_at ds k) ≡ true

  abbrev pub InFrame : ℕ → List ℕ → ℕ → History → Type 0
  InFrame n home now idle = ⊥
  InFrame n home now (opened b) = Going n home now b
  InFrame n home now (closed b) = ⊥

  module _ {n : ℕ} {home : List ℕ} {now : ℕ} {b : Last} (g : Going n home now b) where
    pub few_ended : n ≤ length ds
    few_ended = g.few

    -- ---- the next span ends

    module _ (v : Float) (inside : n < length ds) (later : now ≤ span_time ds n) (fits : span_time ds n ≤ D) where
      abbrev x : Step
      x = get_or xs n no_step

      abbrev rest : List Step
      rest = drop (n + 1) xs

      comes : b.to_come ≡ x ∷ rest
      comes = g.coming ∙ rw add-one (drop-cons xs n no_step (omega (arith, counted)))

      on_time : ltb (span_time ds n) b.clock ≡ false
      on_time = le-ltb (span_time ds n) b.clock (omega (arith, g.clocked))

      other : (k : ℕ) → k < n → x.id ≡ id_at ds k → ⊥
      other k h e = differ n k inside (omega arith) (λ s. omega arith) (sym (id_is n) ∙ e)

      -- it is out
      away_goes : away_at ds n ≡ true → Going (n + 1) home (span_time ds n) (since b (span_time ds n) rest (x.id ∷ b.out) b.reports)
      away_goes away = record {
        numbered = g.numbered;
        tabled = g.tabled;
        coming = refl;
        few = omega arith;
        clocked = omega arith;
        in_time = fits;
        here = λ k h e. elim (eq-or-lt_of_le (below k h)) [
          | inl same ↦ let z : away_at ds n ≡ false = rw (← same) e in clash (cc)
          | inr less ↦ g.here k less e
        ];
        back = λ k m. (omega (arith, (g.back k m).0), (g.back k m).1);
        out = λ k h e un. elim (eq-or-lt_of_le (below k h)) [
          | inl same ↦ rw same (used_head x.id b.out (id_at ds n) (id_is n))
          | inr less ↦ used_tail x.id b.out (id_at ds k) (other k less) ∙ g.out k less e un
        ];
      }
        where
          below : (k : ℕ) → k < n + 1 → k ≤ n
          below k h = omega arith

      -- it has its value
      here_goes :
          away_at ds n ≡ false →
          Going (n + 1) home (span_time ds n)
          (since b (span_time ds n) rest b.out (record { job = id_at ds n; time = span_time ds n; value = value_at ds n } ∷ b.reports))
      here_goes here = record {
        numbered = g.numbered;
        tabled = g.tabled;
        coming = refl;
        few = omega arith;
        clocked = omega arith;
        in_time = fits;
        here = λ k h e. elim (eq-or-lt_of_le (below k h)) [
          | inl same ↦ rw same (holds_new b.reports n (span_time ds n) fits)
          | inr less ↦ holds_still b.reports _ k (λ q. other k less (id_is n ∙ q)) (g.here k less e)
        ];
        back = λ k m. let h = g.back k m in (omega (arith, h.0), holds_still b.reports _ k (λ q. other k h.0 (id_is n ∙ q)) h.1);
        out = λ k h e un. elim (eq-or-lt_of_le (below k h)) [
          | inl same ↦ let z : away_at ds n ≡ true = rw (← same) e in clash (cc)
          | inr less ↦ g.out k less e un
        ];
      }
        where
          below : (k : ℕ) → k < n + 1 → k ≤ n
          below k h = omega arith

      -- what is answered, by what is to come
      abbrev SpanSays : List Step → Type 0
      SpanSays l =
          (on_clock b (span_time ds n) (span_ends l (id_at ds n) v) ≡ done) × Going (n + 1) home (span_time ds n) (span_ended b (span_time ds n) v l)

      by_choice : (away : Bool) → away_at ds n ≡ away → (away ≡ false → v ≡ value_at ds n) → finite? (value_at ds n) ≡ true → SpanSays (x ∷ rest)
      by_choice true e own finite =
          let a : x.away ≡ true = away_is n ∙ e in (rw (on_time, eq-eqb x.id (id_at ds n) (id_is n), a), rw a (away_goes e))
      by_choice false e own finite =
          let a : x.away ≡ false = away_is n ∙ e in
          let num : finite? v ≡ true = rw (own refl) finite in
          (rw (on_time, eq-eqb x.id (id_at ds n) (id_is n), a, num), rw (a, id_is n, own refl) (here_goes e))

      pub span_goes :
          (away_at ds n ≡ false → v ≡ value_at ds n) → finite? (value_at ds n) ≡ true →
          (reply (opened b) (span_call ds n v) ≡ done) × InFrame (n + 1) home (span_time ds n) (told (opened b) (span_call ds n v) done)
      span_goes own finite = subst SpanSays (sym comes) (by_choice (away_at ds n) refl own finite)

    -- ---- a job that is out comes back

    module _ (k : ℕ) (ended : k < n) (away : away_at ds k ≡ true) (un : Memᴰ k home → ⊥)
        (later : now ≤ back_time ds k) (fits : back_time ds k ≤ D) (finite : finite? (value_at ds k) ≡ true) where
      abbrev report : Report
      report = record { job = id_at ds k; time = back_time ds k; value = value_at ds k }

      apart : (j : ℕ) → j < n → (j ≡ k → ⊥) → id_at ds k ≡ id_at ds j → ⊥
      apart j h o = differ k j (omega (arith, g.few)) (omega (arith, g.few)) (λ e. o (sym e))

      home_now : Going n (k ∷ home) (back_time ds k) (since b (back_time ds k) b.to_come (without b.out (id_at ds k)) (report ∷ b.reports))
      home_now = record {
        numbered = g.numbered;
        tabled = g.tabled;
        coming = g.coming;
        few = g.few;
        clocked = omega arith;
        in_time = fits;
        here = λ j h e.
            holds_still b.reports report j (apart j h (λ q. let z : away_at ds k ≡ false = rw (← q) e in clash (cc))) (g.here j h e);
        back = λ j m. elim (Memᴰ.cases_cons m) [
          | inl e ↦ rw e (ended, holds_new b.reports k (back_time ds k) fits)
          | inr r ↦ let h = g.back j r in
              (h.0, holds_still b.reports report j (apart j h.0 (λ q. un (subst (λ (i : ℕ). Memᴰ i home) q r))) h.1)
        ];
        out = λ j h e no_more.
            without_other b.out (id_at ds k) (id_at ds j) (apart j h (λ q. no_more (Memᴰ.head q))) ∙
            g.out j h e (λ r. no_more (Memᴰ.tail r));
      }

      on_clock_lem : ltb (back_time ds k) b.clock ≡ false
      on_clock_lem = le-ltb (back_time ds k) b.clock (omega (arith, g.clocked))

      pub back_goes :
          (reply (opened b) (back_call number ds k) ≡ done) ×
          InFrame n (k ∷ home) (back_time ds k) (told (opened b) (back_call number ds k) done)
      back_goes =
          (rw (eq-eqb number b.number (sym g.numbered), on_clock_lem, g.out k ended away un, finite), home_now)

    -- ---- a turn between

    unchanged :
        (u : Turn) → accepts (opened b) u.call ≡ opened b → (w : Bool) → is_accepted u.said ≡ w →
        cond w (accepts (opened b) u.call) (opened b) ≡ opened b
    unchanged u e true a = e
    unchanged u e false a = refl

    refused_then : (u : Turn) → is_accepted u.said ≡ false → told (opened b) u.call u.said ≡ opened b
    refused_then u e = rw e

    pub quiet_goes : (u : Turn) → u.said ≡ reply (opened b) u.call → Quiet number u → told (opened b) u.call u.said ≡ opened b
    quiet_goes u said (asks_next e) = unchanged u (rw e) (is_accepted u.said) refl
    quiet_goes u said (asks_read e) = unchanged u (rw e) (is_accepted u.said) refl
    quiet_goes u said (asks_begin e) = refused_then u (rw (said, e))
    quiet_goes u said (other_number {n = m} e o) =
        refused_then u (rw (said, e, ne_eqb m b.number (λ q. o (q ∙ g.numbered))))
    quiet_goes u said (is_refused e) = refused_then u e

  -- ---- all are done

  pub record Kept (b : Last) : Type 0 where
    numbered : b.number ≡ number
    tabled : b.table ≡ t
    holds : (k : ℕ) → k < length ds → Holds b.reports k

  pub own_read : (b : Last) → Kept b → (unreported : Reply) (k : ℕ) → k < length ds → reads b unreported (id_at ds k) ≡ fresh number (value_at ds k)
  own_read b w unreported k h =
      let j = p.named k (omega (arith, counted)) in
      let i = in_table t.jobs (id_at ds k) j.at j.inside (j.same_id ∙ id_is k) in
      let r = w.holds k h in
      rw (w.tabled, i.1, r.report, le-leb r.time D r.early, w.numbered)

  -- at the end of the events, no event is later than D
  pub record Ended (b : Last) : Type 0 where
    pub kept : Kept b
    clocked : b.clock ≤ D

  pub all_ended :
      {n : ℕ} {home : List ℕ} {now : ℕ} {b : Last} → Going n home now b → n ≡ length ds →
      ((k : ℕ) → k < length ds → away_at ds k ≡ true → Memᴰ k home) → Ended b
  all_ended {b = b} g all back = record {
    kept = record { numbered = g.numbered; tabled = g.tabled; holds = λ k h. step k h (away_at ds k) refl };
    clocked = omega (arith, g.clocked, g.in_time);
  }
    where
      step : (k : ℕ) → k < length ds → (away : Bool) → away_at ds k ≡ away → Holds b.reports k
      step k h true e = (g.back k (back k h e)).1
      step k h false e = g.here k (omega arith) e

  module _ (b : Last) (w : Ended b) (time : ℕ) (late : D ≤ time) where
    pub own_close : reply (opened b) (event (E.Close time)) ≡ done
    own_close = rw (le-ltb time b.clock (omega (arith, w.clocked)), w.kept.tabled, le-ltb time D late)

    abbrev pub shut : Last
    shut = since b time b.to_come b.out b.reports

    pub kept_shut : Kept shut
    kept_shut = record { numbered = w.kept.numbered; tabled = w.kept.tabled; holds = w.kept.holds }

  -- ---- at the begin

  pub begun_goes : Going 0 [] 0 (record { number = number; table = t; to_come = xs; out = []; reports = []; clock = 0 })
  begun_goes = record {
    numbered = refl;
    tabled = refl;
    coming = refl;
    few = omega arith;
    clocked = omega arith;
    in_time = omega arith;
    here = λ k h e. absurd (omega arith);
    back = λ k m. absurd (Memᴰ.not-nil m);
    out = λ k h e un. absurd (omega arith);
  }
