-- Begun numbers only rise: in every sequence of calls from idle the number of each accepted begin is above those before. Assumes nothing.
use Rattle.std.specs.Prelude.{Err, Ok}
use Prim.Native.Nat.{ℕ, ◌<◌}
use native.Mathlib.Omega.{arith}
use mathlib.Core.Path.{◌≡◌, refl, sym, ap}
use mathlib.Core.Bool.{Bool, true, false, cond}
use mathlib.Core.List.{List, [], ◌∷◌, ◌++◌}
use borrow.Author.Tests.{ltb-true}
use lib.Dec.{ltb}
use lib.Ieee.{Float}
use Rattle.model.specs.Lists.{All}
use Rattle.model.proofs.Lists.{all_map}
use Rattle.table.specs.Tables.{read_table}
use Rattle.plan.specs.declared.Step as plan
use Rattle.plan.specs.Plans.{read_plan}
use Rattle.judge.specs.Check.{Checked}
use Rattle.judge.specs.Check.{check_plan}
use Rattle.frame_promises.specs.Call.{Call, begin, event}
use Rattle.frame_record.specs.declared.Event.{Event}
use Rattle.frame_record.specs.declared.Event.TheVariants as E
use Rattle.model.proofs.Tests.{false_true}
use Rattle.frame_promises.specs.History.{Turn, Last, History, idle, opened, closed, begins, span_ended, happens, opens, accepts, is_accepted, told, reply}
use Rattle.frame_promises.specs.Runs.{FromIdle}
use Rattle.frame_promises.specs.Sequences.{number_of, begun_in, Rising}
use Rattle.frame_promises.proofs.Laws.{refused_not}
use Rattle.frame_promises.proofs.Since.{Bytes, begin_bytes, refused_else}
use Rattle.frame_promises.proofs.Replies.{Replied, replied_all}

-- above the last number begun, if there is one
abbrev Above : History → ℕ → Type 0
Above idle n = Unit {0}
Above (opened b) n = b.number < n
Above (closed b) n = b.number < n

record Up (h : History) (ns : List ℕ) : Type 0 where
  rise : Rising ns
  above : All (Above h) ns

-- no call but begin changes the number
span_number : (b : Last) (t : ℕ) (v : Float) (xs : List plan.Step) → (span_ended b t v xs).number ≡ b.number
span_number b t v [] = refl
span_number b t v (x ∷ xs) = refl

happens_above : (b : Last) (e : Event) (n : ℕ) → Above (happens b e) n → b.number < n
happens_above b E.Next n h = h
happens_above b (E.SpanEnd id t v) n h = rw (span_number b t v b.to_come) at h
happens_above b (E.Return m id t v) n h = h
happens_above b (E.Close t) n h = h
happens_above b (E.Read id) n h = h

event_above : (h : History) (e : Event) (w : Bool) (n : ℕ) → Above (cond w (accepts h (event e)) h) n → Above h n
event_above h e false n a = a
event_above idle e true n a = a
event_above (opened b) e true n a = happens_above b e n a
event_above (closed b) e true n a = a

passes_above : (k : Checked) (above : Bool) → is_accepted (begins k above) ≡ true → above ≡ true
passes_above (Ok run) above a = (refused_else above _ _ refl a).0
passes_above (Err r) above a = absurd (refused_not r a)

-- an accepted begin: its number is above, and is the last one then
module _ (table s : List ℕ) (n : ℕ) where
  accepted_above : (h : History) → is_accepted (reply h (begin table s n)) ≡ true → Above h n
  accepted_above idle a = tt
  accepted_above (opened b) a = absurd (false_true a)
  accepted_above (closed b) a = ltb-true b.number n (passes_above (check_plan table s) (ltb b.number n) a)

  accepted_bytes : (h : History) → is_accepted (reply h (begin table s n)) ≡ true → Bytes table s
  accepted_bytes idle a = begin_bytes table s true a
  accepted_bytes (opened b) a = absurd (false_true a)
  accepted_bytes (closed b) a = begin_bytes table s (ltb b.number n) a

  then_above : (h : History) → Bytes table s → (m : ℕ) → Above (opens n (read_table table) (read_plan s) h) m → n < m
  then_above h w m a = rw (w.is_table, w.is_plan) at a

above_both : (h : History) (n m : ℕ) → Above h n → n < m → Above h m
above_both idle n m p q = tt
above_both (opened b) n m p q = omega arith
above_both (closed b) n m p q = omega arith

up : (ts : List Turn) (h : History) → Replied h ts → Up h (begun_in ts)
unfolding begun_in
up [] h r = record { rise = tt; above = tt }
up (t ∷ ts) h (said, r) = step t.call (is_accepted t.said) (ap is_accepted (sym said)) (up ts (told h t.call t.said) r)
  where
    step :
        (c : Call) (w : Bool) → is_accepted (reply h c) ≡ w → Up (cond w (accepts h c) h) (begun_in ts) →
        Up h (cond w (number_of c) [] ++ begun_in ts)
    step c false e u = u
    step (event x) true e u = record { rise = u.rise; above = all_map (event_above h x true) (begun_in ts) u.above }
    step (begin table s n) true e u =
        let later = all_map (then_above table s n h (accepted_bytes table s n h e)) (begun_in ts) u.above in
        let own = accepted_above table s n h e in
        record { rise = (later, u.rise); above = (own, all_map (λ m. above_both h n m own) (begun_in ts) later) }

-- the promise
pub numbers_rise : (ts : List Turn) → FromIdle ts → Rising (begun_in ts)
numbers_rise ts r = (up ts idle (replied_all ts r)).rise
