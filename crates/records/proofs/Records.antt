-- Laws of the records: what each line of the table of kinds says of a byte, and the four ways in which a record is judged.
-- The laws of `judged` are told once for every reader: the frame's, the rows' and, in crate plan, the steps'. Assumes nothing.
use Prim.Native.Nat.{ℕ, ◌+◌, ◌-◌, ◌≤◌, ◌<◌}
use mathlib.Core.Path.{◌≡◌, refl, sym, ap, subst, ◌∙◌}
use native.Mathlib.Omega.{arith}
use mathlib.Core.Bool.{Bool, true, false, cond}
use mathlib.Core.List.{List}
use Rattle.std.specs.Prelude.{Option, None, Some, Result, Ok, Err}
use lib.ListN.{length, get_or}
use lib.Dec.{ltb, leb, eqb}
use borrow.Author.Tests.{ltb-true, leb-true, eqb-true, lt-ltb, le-ltb, le-leb, lt-leb}
use Rattle.model.proofs.Lists.{clash}
use Rattle.model.proofs.Tests.{cond_all}
use Rattle.records.specs.declared.refusal.Place.{Place}
use Rattle.records.specs.declared.refusal.Refusal.{Refusal}
use Rattle.records.specs.declared.refusal.Refusal.TheVariants.{Short, Kind}
use Rattle.records.specs.declared.kind.FrameKind.{FrameKind}
use Rattle.records.specs.declared.kind.RowKind.{RowKind}
use Rattle.records.specs.declared.kind.RowKind.TheVariants.{HereRow, EitherRow, EndRow}
use Rattle.records.specs.declared.kind.StepKind.{StepKind}
use Rattle.records.specs.declared.kind.StepKind.TheVariants.{HereStep, AwayStep, EndStep}
use Rattle.records.specs.declared.kind.Meaning.{Meaning}
use Rattle.records.specs.declared.kind.Meaning.TheVariants.{Frame, Row, Step}
use Rattle.records.specs.declared.kind.Form.{Form}
use Rattle.records.specs.declared.record.Whole.{Whole}
use Rattle.records.specs.Refusals.{past}
use Rattle.records.specs.Kinds.{frame_kind, here_kind, either_kind, table_end, run_here, send_away, plan_end}
use Rattle.records.specs.Records.{form, form_of, frame_only, row_only, step_only, allowed, known, judged, opened}

-- the kind byte and the body's length of each kind of row and of step
abbrev pub row_byte : RowKind → ℕ
row_byte HereRow = here_kind
row_byte EitherRow = either_kind
row_byte EndRow = table_end

abbrev pub row_length : RowKind → ℕ
row_length HereRow = 3
row_length EitherRow = 7
row_length EndRow = 0

abbrev pub step_byte : StepKind → ℕ
step_byte HereStep = run_here
step_byte AwayStep = send_away
step_byte EndStep = plan_end

abbrev pub step_length : StepKind → ℕ
step_length HereStep = 1
step_length AwayStep = 1
step_length EndStep = 0

-- what holds of each line of the table of kinds, and of no line, holds of every byte
pub form_all :
    (P : ℕ → Option Form → Type 0) →
    P frame_kind (form Frame 2) →
    ((k : RowKind) → P (row_byte k) (form (Row k) (row_length k))) →
    ((k : StepKind) → P (step_byte k) (form (Step k) (step_length k))) →
    ((b : ℕ) → P b None) →
    (b : ℕ) → P b (form_of b)
unfolding form_of
form_all P frame row step unknown b =
    pick frame_kind frame
    (pick here_kind (row HereRow)
    (pick either_kind (row EitherRow)
    (pick table_end (row EndRow)
    (pick run_here (step HereStep)
    (pick send_away (step AwayStep)
    (pick plan_end (step EndStep) (unknown b)))))))
  where
    pick : (n : ℕ) {x y : Option Form} → P n x → P b y → P b (cond (eqb b n) x y)
    pick n {x} p q = cond_all (P b) (eqb b n) (λ e. subst (λ (m : ℕ). P m x) (sym (eqb-true b n e)) p) (λ e. q)

-- the form of each row's and each step's byte
pub row_form : (k : RowKind) → form_of (row_byte k) ≡ form (Row k) (row_length k)
unfolding form_of
row_form HereRow = refl
row_form EitherRow = refl
row_form EndRow = refl

pub step_form : (k : StepKind) → form_of (step_byte k) ≡ form (Step k) (step_length k)
unfolding form_of
step_form HereStep = refl
step_form AwayStep = refl
step_form EndStep = refl

pub frame_form : form_of frame_kind ≡ form Frame 2
unfolding form_of
frame_form = refl

-- a byte of a known meaning is that kind's byte, and its body has that kind's length
abbrev Means : Meaning → ℕ → ℕ → ℕ → Option Form → Type 0
Means m byte body b o = (f : Form) → o ≡ Some f → f.meaning ≡ m → (b ≡ byte) × (f.body ≡ body)

pub frame_kind_lem : (b : ℕ) (f : Form) → form_of b ≡ Some f → f.meaning ≡ Frame → (b ≡ frame_kind) × (f.body ≡ 2)
frame_kind_lem b =
    form_all (Means Frame frame_kind 2) (λ f e m. (refl, cc)) (λ k f e m. (cc, cc)) (λ k f e m. (cc, cc)) (λ n f e m. (cc, cc)) b

pub row_kind : (b : ℕ) (k : RowKind) (f : Form) → form_of b ≡ Some f → f.meaning ≡ Row k → (b ≡ row_byte k) × (f.body ≡ row_length k)
row_kind b k =
    form_all (Means (Row k) (row_byte k) (row_length k))
    (λ f e m. (cc, cc)) (λ j f e m. (cc, cc)) (λ j f e m. (cc, cc)) (λ n f e m. (cc, cc)) b

pub step_kind : (b : ℕ) (k : StepKind) (f : Form) → form_of b ≡ Some f → f.meaning ≡ Step k → (b ≡ step_byte k) × (f.body ≡ step_length k)
step_kind b k =
    form_all (Means (Step k) (step_byte k) (step_length k))
    (λ f e m. (cc, cc)) (λ j f e m. (cc, cc)) (λ j f e m. (cc, cc)) (λ n f e m. (cc, cc)) b

-- what may stand at a place
pub is_frame : (m : Meaning) (u : FrameKind) → frame_only m ≡ Some u → m ≡ Frame
is_frame Frame u e = refl
is_frame (Row k) u e = cc
is_frame (Step k) u e = cc

pub is_row : (m : Meaning) (k : RowKind) → row_only m ≡ Some k → m ≡ Row k
is_row Frame k e = cc
is_row (Row j) k e = cc
is_row (Step j) k e = cc

pub is_step : (m : Meaning) (k : StepKind) → step_only m ≡ Some k → m ≡ Step k
is_step Frame k e = cc
is_step (Row j) k e = cc
is_step (Step j) k e = cc

-- The laws of `judged`, one for each of its answers. `f` is the form of the byte at the place, as `form_of` gives it.
module _ {K R : Type 0} (refuse : Refusal → R) (read : Place → K → R) (may : Meaning → Option K) (s : List ℕ) (p : Place) where
  pub no_byte : length s ≤ p.at → judged refuse read may s p ≡ refuse (Short p)
  unfolding judged
  no_byte h = simp (le-ltb _ _ h)

  pub unknown : form_of (get_or s p.at 0) ≡ None → p.at < length s → judged refuse read may s p ≡ refuse (Kind p)
  unfolding judged
  unknown told there = simp (lt-ltb _ _ there, told)

  pub not_allowed :
      {f : Form} → form_of (get_or s p.at 0) ≡ Some f → p.at < length s → may f.meaning ≡ None → judged refuse read may s p ≡ refuse (Kind p)
  unfolding judged
  not_allowed told there e = simp (lt-ltb _ _ there, told, e)

  pub cut :
      {f : Form} → form_of (get_or s p.at 0) ≡ Some f → p.at < length s → (k : K) → may f.meaning ≡ Some k →
      length s - (p.at + 1) < f.body → judged refuse read may s p ≡ refuse (Short p)
  unfolding judged
  cut told there k e h = simp (lt-ltb _ _ there, told, e, lt-leb _ _ h)

  pub whole :
      {f : Form} → form_of (get_or s p.at 0) ≡ Some f → p.at < length s → (k : K) → may f.meaning ≡ Some k →
      f.body ≤ length s - (p.at + 1) → judged refuse read may s p ≡ read (past p f.body) k
  unfolding judged
  whole told there k e h = simp (lt-ltb _ _ there, told, e, le-leb _ _ h)

  -- And back: what holds of every refusal, and of what each open record reads, holds of what is judged.
  pub judged_all :
      (P : R → Type 0) → ((f : Refusal) → P (refuse f)) →
      ((k : K) (f : Form) → p.at < length s → form_of (get_or s p.at 0) ≡ Some f → may f.meaning ≡ Some k → f.body ≤ length s - (p.at + 1) →
      P (read (past p f.body) k)) →
      P (judged refuse read may s p)
  unfolding judged
  judged_all P out opens =
      cond_all P (ltb p.at (length s))
      (λ e. known_all (ltb-true _ _ e) (form_of (get_or s p.at 0)) refl)
      (λ e. out (Short p))
    where
      allowed_all :
          p.at < length s → (f : Form) → form_of (get_or s p.at 0) ≡ Some f → (o : Option K) → may f.meaning ≡ o →
          P (allowed refuse read p f.body (leb f.body (length s - (p.at + 1))) o)
      allowed_all there f told None m = out (Kind p)
      allowed_all there f told (Some k) m =
          cond_all P (leb f.body (length s - (p.at + 1))) (λ e. opens k f there told m (leb-true _ _ e)) (λ e. out (Short p))

      known_all : p.at < length s → (o : Option Form) → form_of (get_or s p.at 0) ≡ o → P (known refuse read may s p o)
      known_all there None told = out (Kind p)
      known_all there (Some f) told = allowed_all there f told (may f.meaning) refl

  -- What `opened` answers and what is judged come together: a refusal, or what the whole record reads.
  pub record Same (a : Result (Whole K) Refusal) (r : R) : Type 0 where
    pub out : (f : Refusal) → a ≡ Err f → r ≡ refuse f
    pub in_it : (w : Whole K) → a ≡ Ok w → r ≡ read w.next w.kind

  same_refused : (f : Refusal) → Same (Err f) (refuse f)
  same_refused f = record { out = λ g e. ap refuse (cc); in_it = λ w e. clash (cc) }

  same_whole : (next : Place) (k : K) → Same (Ok (record { kind = k; next = next })) (read next k)
  same_whole next k =
      record {
        out = λ g e. clash (cc);
        in_it = λ w e. let is : record { kind = k; next = next } ≡ w = cc in ap (λ (x : Whole K). read x.next x.kind) is;
      }

  pub judged_opened : Same (opened may s p) (judged refuse read may s p)
  unfolding judged
  judged_opened = there (ltb p.at (length s))
    where
      ok : Place → K → Result (Whole K) Refusal
      ok next k = Ok (record { kind = k; next = next })

      fits : (f : Form) (b : Bool) (o : Option K) → Same (allowed Err ok p f.body b o) (allowed refuse read p f.body b o)
      fits f b None = same_refused (Kind p)
      fits f true (Some k) = same_whole (past p f.body) k
      fits f false (Some k) = same_refused (Short p)

      means : (o : Option Form) → Same (known Err ok may s p o) (known refuse read may s p o)
      means None = same_refused (Kind p)
      means (Some f) = fits f (leb f.body (length s - (p.at + 1))) (may f.meaning)

      there :
          (b : Bool) →
          Same (cond b (known Err ok may s p (form_of (get_or s p.at 0))) (Err (Short p)))
          (cond b (known refuse read may s p (form_of (get_or s p.at 0))) (refuse (Short p)))
      there true = means (form_of (get_or s p.at 0))
      there false = same_refused (Short p)

-- What a whole record tells: its kind may stand there, and its body fits.
pub record IsWhole {K : Type 0} (may : Meaning → Option K) (s : List ℕ) (p : Place) (w : Whole K) : Type 0 where
  pub form : Form
  pub told : form_of (get_or s p.at 0) ≡ Some form
  pub means : may form.meaning ≡ Some w.kind
  pub next : w.next ≡ past p form.body
  pub fits : (past p form.body).at ≤ length s

pub opened_whole :
    {K : Type 0} (may : Meaning → Option K) (s : List ℕ) (p : Place) (w : Whole K) {a : Result (Whole K) Refusal} →
    a ≡ opened may s p → a ≡ Ok w → IsWhole may s p w
opened_whole {K} may s p w e h =
    judged_all Err (λ (next : Place) (k : K). Ok (record { kind = k; next = next })) may s p (λ (r : Result (Whole K) Refusal). r ≡ Ok w → IsWhole may s p w)
    (λ f q. clash (cc))
    (λ k f there told m fits q.
    let is : record { kind = k; next = past p f.body } ≡ w = cc in
    subst (IsWhole may s p) is (record { form = f; told = told; means = m; next = refl; fits = omega arith }))
    (sym e ∙ h)
