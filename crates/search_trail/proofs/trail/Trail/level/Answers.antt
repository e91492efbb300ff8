use Rattle.std.proofs.Common.{◌∙◌, ◌<◌, length, sym, ap, subst, arith}
use Rattle.std.specs.List.Sorted.{IsNonDecreasing}
use Rattle.search_trail.specs.Trails.{StandsAt, Trail, level_at}
use Rattle.search_trail.proofs.Asked.{place_read}
use Rattle.search_trail.proofs.Fits.{levels_few, lits_few}
use Rattle.search_trail.proofs.LevelFacts.{level_of, rising}
use Rattle.search_trail.proofs.trail.Trail.level.Goals as goal

pub count_up_to-requires : goal.count_up_to-requires
count_up_to-requires c = subst IsNonDecreasing (sym c.deref.ensures.value)
    (rising c.self.inside.starts.items c.self.invariant.ascend)

pub overflow_cast-result : goal.overflow_cast-result
overflow_cast-result c =
    let is = c.self.invariant in
    omega (
      arith,
      c.count_up_to.ensures.bound,
      ap length c.deref.ensures.value,
      is.few,
      levels_few _ _ _ _ _ _ _ _
          is,
      lits_few _ _ _ _ _ _ _ _ is,
    )

pub returns : goal.returns
returns c place at =
    let inside = c.self.inside in
    let within = subst (λ (t : Trail). c.args.var < t.vars) (sym c.self.view_is) c.requires.within in
    let stands = subst (λ (t : Trail). StandsAt t c.args.var place) (sym c.self.view_is) at in
    let same = place_read _ _ _ _ _ _ _ _ c.self.invariant c.args.var place _ _ within c.index.ensures stands in
    c.count_up_to.ensures.count ∙ ap (level_of c.deref.result.now) same ∙ ap (λ starts. level_of starts place)
    c.deref.ensures.value
    ∙ ap (λ (t : Trail). level_at t place) c.self.view_is
