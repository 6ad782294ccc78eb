-- A list made once more, and the output of two lists. Assumes nothing.
use mathlib.Core.List.{List, [], ◌++◌, append_assoc, append-nil}
use mathlib.Core.Path.{◌≡◌, refl, sym, ap, subst, ◌∙◌}
use Prim.Native.Nat.{ℕ, ◌+◌}
use native.Mathlib.Numerals.{add-one}
use native.Mathlib.Omega.{arith}
use lib.ListN.{length}
use lib.Ieee.{Float}
use Rattle.std.specs.Prelude.{Ok, Err}
use Rattle.refusal.specs.declared.Refusal.{Refusal}
use Rattle.context.specs.declared.Context.{Context}
use Rattle.context.specs.Calls.{Call}
use Rattle.history.specs.Demand3.{History}
use Rattle.list_runner.specs.declared.ListReply.{ListReply}
use Rattle.list_runner.specs.Lists.{decode}
use Rattle.list_runner.specs.Run.{MakesList, output_from, Runs}
use Rattle.list_runner.proofs.Running.{Continues, output_append, continues}
use Rattle.list_timed.specs.Repeat.{times_of, Repeats, RunsAgain}

module _ {before : List Call} {words bytes : List ℕ} {out₀ : List Float} where
  pub repeats_none : {c : Context} {s : List ℕ} → History before c s → Repeats before 0 words bytes out₀ c s out₀
  unfolding times_of output_from
  repeats_none {c = c} {s = s} h = record { history = subst (λ (l : List Call). History l c s) (sym (append-nil before)) h; output = refl }

  -- once more
  pub repeats_next : {i : ℕ} {c : Context} {s s1 : List ℕ} {out out1 : List Float} {r : ListReply} → length out ≡ length out₀ → Repeats before i words bytes out₀ c s out
      → MakesList c words bytes s out r s1 out1 → Repeats before (i + 1) words bytes out₀ r.context s1 out1
  unfolding times_of
  repeats_next {i = i} {s1 = s1} {out = out} {out1 = out1} {r = r} e g p =
      let l = decode bytes (length out₀) words in
      let q : Continues (before ++ times_of i l) words bytes out r s1 out1 = continues g.history p in
      let d : decode bytes (length out) words ≡ l = ap (λ (n : ℕ). decode bytes n words) e in
      rw add-one
      (record {
        history = subst (λ (m : List Call). History m r.context s1) (ap (λ (m : List Call). (before ++ times_of i l) ++ m) d ∙ append_assoc before (times_of i l) l) q.history;
        output =
            q.output ∙ ap (λ (m : List Call). output_from (before ++ times_of i l) m out) d
            ∙ ap (λ (o : List Float). output_from (before ++ times_of i l) l o) g.output ∙ sym (output_append before (times_of i l) l out₀);
      })

-- ---- both lists

module _ {first bytes s s1 : List ℕ} {out out1 : List Float} (again : List ℕ) (times : ℕ) where
  pub again_refused : {e : Refusal} → Runs first bytes s out (Err e) s1 out1 → RunsAgain first again times bytes s out 0 s1 out1
  again_refused g = record { refused = λ n. let q = g.refused n in (refl, q.1, q.2); ran = λ w. absurd ((g.ran w).0) }

  pub again_ran : {r : ListReply} {c2 : Context} {s2 : List ℕ} {out2 : List Float} → Runs first bytes s out (Ok r) s1 out1 → length out1 ≡ length out
      → ((l : List Call) → History l r.context s1 → Repeats l times again bytes out1 c2 s2 out2)
      → RunsAgain first again times bytes s out r.read s2 out2
  again_ran {r = r} {c2 = c2} {s2 = s2} {out2 = out2} g e p =
      record {
        refused = λ n. let q = (g.refused n).0 in absurd (cc);
        ran =
            λ w.
            let a = decode bytes (length out) first in
            let b = times_of times (decode bytes (length out) again) in
            let q = p a (g.ran w).0.1 in
            let d : times_of times (decode bytes (length out1) again) ≡ b = ap (λ (n : ℕ). times_of times (decode bytes n again)) e in (
              (g.ran w).0.0,
              record { context = c2; history = subst (λ (l : List Call). History (a ++ l) c2 s2) d q.history },
              q.output ∙ ap (λ (l : List Call). output_from a l out1) d ∙ ap (λ (o : List Float). output_from a b o) (g.ran w).1 ∙ sym (output_append [] a b out),
            );
      }
