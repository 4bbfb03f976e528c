-- All answers of every sequence of calls from idle are the replies of its history: they are a function of the calls alone, and none of them is
-- the runner's to choose. Assumes nothing.
use Prim.Native.Nat.{ℕ}
use mathlib.Core.Path.{◌≡◌, refl, sym, ◌∙◌, ap, subst}
use mathlib.Core.List.{List, [], ◌∷◌, ◌++◌, map, append_assoc, append-nil}
use Rattle.frame_record.specs.Answers.{Reply, answer_says}
use Rattle.frame_promises.specs.Call.{Call, begin, event, called_of}
use Rattle.frame_record.specs.declared.Frame.{Frame}
use Rattle.frame_record.specs.declared.Event.TheVariants as E
use Rattle.frame_record.specs.declared.Called.{Called}
use Rattle.frame_promises.proofs.Reached.{Fine, call_fine, idle_fine}
use Rattle.frame_promises.specs.History.{Turn, History, idle, reply, told, history, replies}
use Rattle.frame_promises.specs.Runs.{Allows, Runs, FromIdle}
use Rattle.frame_promises.proofs.Agrees.{Tells}
use Rattle.frame_promises.proofs.Told.{fits, clear}
use Rattle.frame_promises.proofs.Since.{Traced, turn_on}

-- what the contract allows is the step
allowed : (f : Frame) (c : Call) (s : Called) → Allows f c s → s ≡ called_of c f
allowed f (begin table plan n) s e = e
allowed f (event x) s e = e

-- where a sequence has come to: what is known of the record, and of the turns before
record Arrived (ts : List Turn) (h : History) (rest : List Turn) : Type 0 where
  at : Frame
  fine : Fine at
  tells : Tells at h
  traced : Traced ts h
  runs : Runs Allows at rest

module _ (ts : List Turn) (h : History) (t : Turn) (rest : List Turn) (r : Arrived ts h (t ∷ rest)) where
  abbrev next : Called
  next = r.runs.0

  is_next : next ≡ called_of t.call r.at
  is_next = allowed r.at t.call next r.runs.1

  answered : t.said ≡ reply h t.call
  answered = r.runs.2 ∙ ap (λ (x : Called). answer_says x.answer) is_next ∙ (fits r.at r.fine h r.tells t.call).0

  goes_on : Arrived (ts ++ (t ∷ [])) (told h t.call t.said) rest
  goes_on = record {
    at = next.frame;
    fine = subst (λ (x : Called). Fine x.frame) (sym is_next) (call_fine r.at r.fine t.call);
    tells =
        subst (λ (x : Called). Tells x.frame (told h t.call t.said)) (sym is_next)
        (rw answered (fits r.at r.fine h r.tells t.call).1);
    traced = turn_on ts h r.traced (clear r.at r.fine h r.tells) t answered;
    runs = r.runs.3;
  }

starts : (ts : List Turn) → FromIdle ts → Arrived [] idle ts
starts ts (f, first, r) = record { at = f; fine = subst Fine (sym first) idle_fine; tells = rw first refl; traced = tt; runs = r }

-- the answers of the turns to come
answers : (ts rest : List Turn) (h : History) → Arrived ts h rest → map (λ (t : Turn). t.said) rest ≡ replies h (map (λ (t : Turn). t.call) rest)
unfolding replies
answers ts [] h r = refl
answers ts (t ∷ rest) h r =
    let on = answers (ts ++ (t ∷ [])) rest (told h t.call t.said) (goes_on ts h t rest r) in
    rw (← answered ts h t rest r) (ap (λ (l : List Reply). t.said ∷ l) on)

-- after some of them
arrives : (ts before rest : List Turn) (h : History) → Arrived ts h (before ++ rest) → Arrived (ts ++ before) (history h before) rest
unfolding history
arrives ts [] rest h r = rw append-nil r
arrives ts (t ∷ before) rest h r =
    rw (append_assoc ts (t ∷ []) before) at
    (arrives (ts ++ (t ∷ [])) before rest (told h t.call t.said) (goes_on ts h t (before ++ rest) r))

pub traced : (before rest : List Turn) → FromIdle (before ++ rest) → Traced before (history idle before)
traced before rest r = (arrives [] before rest idle (starts (before ++ rest) r)).traced

-- all the answers of a sequence
pub replies_told : (ts : List Turn) → FromIdle ts → map (λ (t : Turn). t.said) ts ≡ replies idle (map (λ (t : Turn). t.call) ts)
replies_told ts r = answers [] ts idle (starts ts r)

-- and each by the turns before it
pub reply_told : (before : List Turn) (t : Turn) (after : List Turn) → FromIdle (before ++ (t ∷ after)) → t.said ≡ reply (history idle before) t.call
reply_told before t after r =
    answered before (history idle before) t after (arrives [] before (t ∷ after) idle (starts (before ++ (t ∷ after)) r))

-- so that each turn's answer is known by what was told before
abbrev pub Replied : History → List Turn → Type 0
Replied h [] = Unit {0}
Replied h (t ∷ ts) = (t.said ≡ reply h t.call) × Replied (told h t.call t.said) ts

replied_from : (ts rest : List Turn) (h : History) → Arrived ts h rest → Replied h rest
replied_from ts [] h r = tt
replied_from ts (t ∷ rest) h r =
    (answered ts h t rest r, replied_from (ts ++ (t ∷ [])) rest (told h t.call t.said) (goes_on ts h t rest r))

pub replied_all : (ts : List Turn) → FromIdle ts → Replied idle ts
replied_all ts r = replied_from [] ts idle (starts ts r)

pub replied : (before rest : List Turn) → FromIdle (before ++ rest) → Replied (history idle before) rest
replied before rest r = replied_from before rest (history idle before) (arrives [] before rest idle (starts (before ++ rest) r))

module _ (before : List Turn) (r : Reply) (after : List Turn) where
  -- a read; a next
  pub reads_told :
      (id : ℕ) → FromIdle (before ++ (record { call = event (E.Read id); said = r } ∷ after)) → r ≡ reply (history idle before) (event (E.Read id))
  reads_told id = reply_told before (record { call = event (E.Read id); said = r }) after
