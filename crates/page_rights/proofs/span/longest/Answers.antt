use Rattle.std.proofs.Common.{◌≡◌, ◌+◌, ◌++◌, inl, inr, sym, subst, ap, ◌∙◌, arith, ℕ, get_or}
use Rattle.page_rights.specs.PageRights.{none_granted}
use Rattle.page_rights.specs.declared.rights.Rights.TheVariants as may
use Rattle.page_rights.specs.RunList.{spread, IsSpan}
use Rattle.page_rights.proofs.Spread.{rest_behind, run_at}
use Rattle.page_rights.proofs.span.longest.Goals as goal

pub runs-preserved : goal.runs-preserved
runs-preserved c =
    let all = spread c.args.runs.now ++ none_granted in
    record {
      rest =
          λ k. rest_behind c.args.runs.now c.runs.run-index c.runs.before _ (omega arith) c.runs.invariant.rest k
          ∙ ap (λ (n : ℕ). get_or (spread c.args.runs.now ++ none_granted) (c.runs.before + n + k) may.No) (sym c.from-count.ensures);
      found = elim c.longer-found.ensures [
        | inl e ↦ subst (IsSpan all) (sym e) (λ page low high. run_at c.args.runs.now c.runs.run-index c.runs.before _ (omega arith) c.runs.invariant.rest page low (omega (arith, high, c.counted.ensures, c.from-count.ensures)))
        | inr e ↦ subst (IsSpan all) (sym e) c.runs.invariant.found
      ];
    }
