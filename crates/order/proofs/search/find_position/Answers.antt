-- `find_position` looks whether the first place whose key is not below has the key. Assumes nothing.
use Rattle.std.proofs.Common.{rules, tests, arith, ap, ◌∙◌}
use Rattle.rules.specs.Ordered.{key_at}
use Rattle.order.proofs.Searching.{split-point, searched-missing, searched-at}
use Rattle.order.proofs.search.find_position.Goals as goal

pub returns-in_err-position : goal.returns-in_err-position
returns-in_err-position c =
    let a = c.args in
    let p = c.partition_point-place in
    let s = split-point a.keys.now a.order.now a.key p.result p.ensures.bound p.ensures.partitioned (λ a r f q. search (rules, tests)) in
    rw c.from_residual.ensures (searched-missing a.keys.now a.order.now a.key p.result s (λ h b e. omega (arith, c.in_err-position.ensures.lookup.3)))

pub returns-in_err-found : goal.returns-in_err-found
returns-in_err-found c =
    let a = c.args in
    let p = c.partition_point-place in
    let s = split-point a.keys.now a.order.now a.key p.result p.ensures.bound p.ensures.partitioned (λ a r f q. search (rules, tests)) in
    let at = c.in_ok-position.ensures.lookup.3.1 0 in
    rw c.from_residual-in_err-found.ensures (searched-missing a.keys.now a.order.now a.key p.result s (λ h b e. omega (arith, c.in_err-found.ensures.lookup.3, at)))

pub returns : goal.returns
returns c =
    let a = c.args in
    let p = c.partition_point-place in
    let s = split-point a.keys.now a.order.now a.key p.result p.ensures.bound p.ensures.partitioned (λ a r f q. search (rules, tests)) in
    let at = c.in_ok-position.ensures.lookup.3 in
    let found = c.in_ok-found.ensures.lookup.3 in
    rw (c.then_some.ensures, at.1 0) (searched-at a.keys.now a.order.now a.key p.result s at.0 (omega (arith, found.0, at.1 0)) c.in_ok-found.field-0.now (found.1 0 ∙ ap (key_at a.keys.now) (at.1 0)))
