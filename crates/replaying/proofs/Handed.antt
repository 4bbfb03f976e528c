-- What the loop over a log keeps: the turns that may still come lead to the record of the whole log, and while every line could be written the writer
-- has been handed the front of the log's text. Assumes nothing.
use Rattle.std.specs.Prelude.{Option, Result, Ok, Err, OnOk, IsOk}
use Rattle.std.specs.Io.KnownBytes.{Appends}
use Rattle.std.proofs.KnownBytes.{Appends-nil, Appends-trans}
use Prim.Native.Nat.{ℕ, zero, suc, ◌+◌, ◌-◌, ◌<◌, ◌≤◌}
use native.Mathlib.Omega.{arith}
use mathlib.Core.Path.{◌≡◌, refl, sym, ap, subst, ◌∙◌}
use mathlib.Core.List.{List, [], ◌++◌}
use lib.ListN.{length, take, drop, length-drop}
use Rattle.std.proofs.Common.{append_assoc, append-nil}
use lib.Seq.{take_at, take_all}
use Rattle.model.proofs.Tests.{false_true}
use Rattle.octets.specs.Writing.{Wrote}
use Rattle.octets.proofs.Writing.{written_front}
use Rattle.frame_record.specs.declared.Frame.{Frame}
use Rattle.frame_record.specs.Answers.{idle}
use Rattle.frame_log.specs.Log.{record_at}
use Rattle.replaying.specs.declared.Turn.{Turn}
use Rattle.replaying.specs.Turns.{frame_after, gone_by, frame_from, replayed}
use Rattle.replaying.specs.Lines.{line_of, text_from, replay_text, TurnAt}
use Rattle.replaying.proofs.Turns.{gone_some, gone_within, nothing, unrolled, no_text, more_text}

-- the line stands at the front of the area
pub handed : (before w area : List ℕ) (n : ℕ) → Wrote before 0 w area n → take n area ≡ w
handed before w area n wrote =
    ap (take n) (wrote.area ∙ written_front before w) ∙ take_at w (drop (length w) before) n (omega (arith, wrote.place))

on_ok : {E P : Type 0} (r : Result (Unit {0}) E) → (IsOk r → P) → OnOk r P
on_ok (Ok x) h = h refl
on_ok (Err e) h = tt

module _ (log : List ℕ) (old : Option (List ℕ)) where
  -- the writer has been handed some bytes, and with the text of the turns that may still come they are the log's
  pub record Handed (most : ℕ) (f : Frame) (rest : List ℕ) (new : Option (List ℕ)) : Type 0 where
    pub done : List ℕ
    pub holds : Appends old new done
    pub whole : done ++ text_from most f (length log - length rest) rest ≡ replay_text log

  pub record Going {E : Type 0} (f : Frame) (rest : List ℕ) (written : Result (Unit {0}) E) (new : Option (List ℕ)) : Type 0 where
    pub most : ℕ
    pub enough : length rest ≤ most
    pub within : length rest ≤ length log
    pub same : frame_from most f rest ≡ replayed log
    pub text : IsOk written → Handed most f rest new

  pub starts : {E : Type 0} → Going {E = E} idle log (Ok tt) old
  unfolding replayed replay_text
  starts = record {
    most = length log;
    enough = omega arith;
    within = omega arith;
    same = refl;
    text = λ ok. record { done = []; holds = Appends-nil old; whole = let from : length log - length log ≡ 0 = omega arith in rw from refl };
  }

  module _ {E : Type 0} {f : Frame} {rest : List ℕ} {written : Result (Unit {0}) E} {new : Option (List ℕ)} (g : Going f rest written new) where
    pub ends_frame : length rest ≡ 0 → f ≡ replayed log
    ends_frame e = sym (nothing g.most f rest e) ∙ g.same

    text_then : length rest ≡ 0 → IsOk written → Appends old new (replay_text log)
    text_then e ok =
        let h = g.text ok in
        let all : h.done ≡ replay_text log =
        sym (append-nil h.done) ∙ ap (λ (l : List ℕ). h.done ++ l) (sym (no_text g.most f (length log - length rest) rest e)) ∙ h.whole in
        subst (Appends old new) all h.holds

    pub ends_text : length rest ≡ 0 → OnOk written (Appends old new (replay_text log))
    ends_text e = on_ok written (text_then e)

    -- a turn, whose line was handed out if every line before was
    module _ {before area : List ℕ} {r : Turn} (t : TurnAt f (length log - length rest) rest before r area) (more : ¬ (length rest ≡ 0)) where
      pub moved : (0 < r.gone) × (r.gone ≤ length rest)
      moved = (rw t.gone (gone_some rest (omega arith)), rw t.gone (gone_within rest))

      cut : take (length rest - r.gone) (drop r.gone rest) ≡ drop r.gone rest
      cut = take_all (length rest - r.gone) (drop r.gone rest) (omega (arith, length-drop r.gone rest))

      place : length log - length (drop r.gone rest) ≡ length log - length rest + gone_by rest (record_at rest)
      place = omega (arith, length-drop r.gone rest, g.within, moved, t.gone)

      joined :
          (done : List ℕ) (m : ℕ) → done ++ text_from (suc m) f (length log - length rest) rest ≡ replay_text log →
          (done ++ take r.size area) ++ text_from m r.frame (length log - length (drop r.gone rest)) (drop r.gone rest) ≡ replay_text log
      joined done m whole =
          let at = length log - length rest in
          let line : take r.size area ≡ line_of f at rest (record_at rest) = handed before (line_of f at rest (record_at rest)) area r.size t.line in
          let later : text_from m r.frame (length log - length (drop r.gone rest)) (drop r.gone rest) ≡
          text_from m (frame_after f rest (record_at rest)) (at + gone_by rest (record_at rest)) (drop (gone_by rest (record_at rest)) rest) =
          rw (place, t.frame, t.gone) in
          append_assoc done (take r.size area) _
          ∙ ap (λ (l : List ℕ). done ++ l) (rw (line, later) (sym (more_text m f at rest more)))
          ∙ whole

      turned :
          (written' : Result (Unit {0}) E) (new' : Option (List ℕ)) → (IsOk written' → IsOk written × Appends new new' (take r.size area)) →
          (m : ℕ) → g.most ≡ m → Going r.frame (drop r.gone rest) written' new'
      turned written' new' h zero e = absurd (omega (arith, g.enough))
      turned written' new' h (suc m) e = record {
        most = m;
        enough = omega (arith, length-drop r.gone rest, g.enough, moved);
        within = omega (arith, length-drop r.gone rest, g.within);
        same = rw (t.frame, t.gone) (sym (unrolled m f rest more) ∙ subst (λ (k : ℕ). frame_from k f rest ≡ replayed log) e g.same);
        text = λ ok.
            let now = h ok in
            let past = g.text now.0 in
            record {
              done = past.done ++ take r.size area;
              holds = Appends-trans old new new' past.done (take r.size area) past.holds now.1;
              whole = joined past.done m (subst (λ (k : ℕ). past.done ++ text_from k f (length log - length rest) rest ≡ replay_text log) e past.whole);
            };
      }

      pub shorter : length (take (length rest - r.gone) (drop r.gone rest)) < length rest
      shorter = rw (cut) (omega (arith, length-drop r.gone rest, moved))

      -- what is left, as the code cuts it
      pub turn :
          (written' : Result (Unit {0}) E) (new' : Option (List ℕ)) → OnOk written' (IsOk written × Appends new new' (take r.size area)) →
          Going r.frame (take (length rest - r.gone) (drop r.gone rest)) written' new'
      turn (Ok x) new' h = rw (cut) (turned (Ok x) new' (λ ok. h) g.most refl)
      turn (Err e) new' h = rw (cut) (turned (Err e) new' (λ ok. absurd (false_true ok)) g.most refl)
