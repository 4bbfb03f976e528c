-- How a case about reading, the check and the frame runner is shown: what the contract allows says its numbers, and what a sequence of calls
-- is answered is the reply that its calls settle. Assumes nothing.
use mathlib.Core.Path.{◌≡◌, refl, sym, ap, ◌∙◌}
use mathlib.Core.List.{List, [], ◌∷◌, ◌++◌, map, map-append}
use Prim.Native.Nat.{ℕ}
use Rattle.table.specs.Tables.{read_table, table_read, verdict_says}
use Rattle.judge.specs.Check.{checked_says, check_plan}
use Rattle.frame_record.specs.declared.Event.{Event}
use Rattle.frame_record.specs.declared.Event.TheVariants.{Read}
use Rattle.frame_record.specs.declared.Reading.{Reading}
use Rattle.frame_record.specs.Answers.{Reply, reading_says}
use Rattle.frame_promises.specs.Call.{Call, begin, event}
use Rattle.frame_promises.specs.History.{Turn, idle, done, replies}
use Rattle.frame_promises.proofs.Replies.{replies_told}
use Rattle.marked.specs.Marked.{Claimed, reads, checks, after_events}

pub read_case : (s ns : List ℕ) → verdict_says (table_read (read_table s)) ≡ ns → Claimed s (reads ns)
read_case s ns e r a = ap verdict_says a ∙ e

pub check_case : (s p ns : List ℕ) → checked_says (check_plan s p) ≡ ns → Claimed s (checks p ns)
check_case s p ns e r a = ap checked_says a ∙ e

-- what the last of some calls is answered
unfoldable pub last_of : Reply → List Reply → Reply
last_of d [] = d
last_of d (x ∷ xs) = last_of x xs

last_of_end : (d : Reply) (xs : List Reply) (q : Reply) → last_of d (xs ++ (q ∷ [])) ≡ q
unfolding last_of
last_of_end d [] q = refl
last_of_end d (x ∷ xs) q = last_of_end x xs q

abbrev calls_of : List Turn → List Call
calls_of ts = map (λ (t : Turn). t.call) ts

abbrev said_of : List Turn → List Reply
said_of ts = map (λ (t : Turn). t.said) ts

-- a read after a begin as frame 1 and some events
abbrev pub asked : List ℕ → List ℕ → List Event → ℕ → List Call
asked s p es id = (begin s p 1 ∷ map event es) ++ (event (Read id) ∷ [])

module _ (s p : List ℕ) (es : List Event) (id : ℕ) (r : Reading) where
  pub events_case : last_of done (replies idle (asked s p es id)) ≡ reading_says r → Claimed s (after_events p es id r)
  events_case e before q calls runs =
      let t : Turn = record { call = event (Read id); said = q } in
      let made : calls_of (before ++ (t ∷ [])) ≡ asked s p es id =
      map-append (λ (u : Turn). u.call) before (t ∷ []) ∙ ap (λ (cs : List Call). cs ++ (event (Read id) ∷ [])) calls in
      sym (last_of_end done (said_of before) q)
      ∙ ap (last_of done) (sym (map-append (λ (u : Turn). u.said) before (t ∷ [])))
      ∙ ap (last_of done) (replies_told (before ++ (t ∷ [])) runs)
      ∙ ap (λ (cs : List Call). last_of done (replies idle cs)) made
      ∙ e
