-- Document 01, 'What the contracts have to settle': "that two answers allowed by it coincide is itself proved".
-- The contract is the function's own, as Rattle makes it of the source: `ended` is its signature, `Reads.Learnt` what its `ensures` tells a caller,
-- `Reads.Pre` what its `requires` asks. Assumes nothing.
use Rattle.std.specs.Prelude.{◌≡◌}
use contract.Lifetimes.{Lfts}
use denote.Triple.Entry.{Args, Res}
use denote.Triple.Clauses.{Ended, Lasts, at_exit}
use Rattle.faults.specs.Allows.{Tells}

module _ (T : Ended) where
  -- what is asked of a call's inputs
  abbrev pub Asks : Type 1
  Asks = (κs : Lfts T.signature.lifetimes) → Args T.signature κs → Type 0

  -- For the inputs i, two outcomes that are allowed coincide: the answers r and s, and what is left in the memory lent as `&mut`, m and n.
  abbrev pub OneOutcome : Tells T → Asks
  OneOutcome Learnt κs i =
      (r s : Res T.signature κs) (m n : Lasts T κs i)
      → Learnt κs i r (at_exit T κs i m) → Learnt κs i s (at_exit T κs i n) → (r ≡ s) × (m ≡ n)

  -- so for all inputs; so for those that the function may be called with
  abbrev pub Settles : Tells T → Type 0
  Settles Learnt = (κs : Lfts T.signature.lifetimes) (i : Args T.signature κs) → OneOutcome Learnt κs i

  abbrev pub SettlesAsked : Asks → Tells T → Type 0
  SettlesAsked Pre Learnt = (κs : Lfts T.signature.lifetimes) (i : Args T.signature κs) → Pre κs i → OneOutcome Learnt κs i

  -- So for what a part of the answer is, where the rest is not the function's own: whether a line could be written.
  abbrev pub SettlesPart : {A : Type 0} → ((κs : Lfts T.signature.lifetimes) → Res T.signature κs → A) → Tells T → Type 0
  SettlesPart part Learnt =
      (κs : Lfts T.signature.lifetimes) (i : Args T.signature κs) (r s : Res T.signature κs) (m n : Lasts T κs i)
      → Learnt κs i r (at_exit T κs i m) → Learnt κs i s (at_exit T κs i n) → (part κs r ≡ part κs s) × (m ≡ n)

  -- So where what is left in lent memory is not the function's own either: what a writer holds.
  abbrev pub SettlesOnly : {A : Type 0} → ((κs : Lfts T.signature.lifetimes) → Res T.signature κs → A) → Tells T → Type 0
  SettlesOnly part Learnt =
      (κs : Lfts T.signature.lifetimes) (i : Args T.signature κs) (r s : Res T.signature κs) (m n : Lasts T κs i)
      → Learnt κs i r (at_exit T κs i m) → Learnt κs i s (at_exit T κs i n) → part κs r ≡ part κs s

  -- For the inputs i the contract rules the answer r out, whatever is left in lent memory.
  abbrev pub RulesOut : Tells T → (κs : Lfts T.signature.lifetimes) → Args T.signature κs → Res T.signature κs → Type 0
  RulesOut Learnt κs i r = (m : Lasts T κs i) → ¬ (Learnt κs i r (at_exit T κs i m))

  -- Nothing is asked of a call: it may be made with every input of its parameters' types.
  abbrev pub AsksNothing : Asks → Type 0
  AsksNothing Pre = (κs : Lfts T.signature.lifetimes) (i : Args T.signature κs) → Pre κs i

  -- Nothing but this.
  abbrev pub AsksOnly : Asks → Asks → Type 0
  AsksOnly This Pre = (κs : Lfts T.signature.lifetimes) (i : Args T.signature κs) → This κs i → Pre κs i
