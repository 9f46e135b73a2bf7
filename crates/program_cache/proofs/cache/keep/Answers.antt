use Rattle.std.proofs.Common.{subst, sym, Contains, nat_eq, ⊎_elim}
use Rattle.std.specs.Cmp.Lexicographic.{pointwise}
use Rattle.lru.proofs.CallerLemmas.{Contains-put_entries}
use Rattle.program_cache.specs.Cached.{IsCached}
use Rattle.program_cache.proofs.cache.keep.Goals as goal

pub returns : goal.returns
returns c = λ e d. ⊎_elim (λ was. c.requires.all e was) (λ new. subst IsCached (sym new.0) c.in_ok-cached.ensures)
    (Contains-put_entries (pointwise nat_eq) c.args.kept.now c.args.hash.now c.in_ok-cached.cached e (subst (λ x. Contains x.entries e) c.in_ok-put.ensures.entries d))

pub returns-in_err-put : goal.returns-in_err-put
returns-in_err-put c = λ e d. c.requires.all e (subst (λ x. Contains x.entries e) c.in_err-put.ensures.err d)
