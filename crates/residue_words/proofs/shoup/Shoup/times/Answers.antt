use Rattle.std.proofs.Common.{◌+◌, ◌*◌, ◌/◌, refl, arith, lit<}
use Rattle.residue_words.proofs.Quotients.{prepared_low, prepared_near, rest_residue}
use Rattle.residue_words.proofs.shoup.Shoup.times.Goals as goal

pub overflow_sub-rest : goal.overflow_sub-rest
overflow_sub-rest c = prepared_low 4294967296 c.self.inside.factor c.args.y c.self.inside.p c.self.inside.quotient _ (lit< tt) c.self.invariant.2 refl

pub returns-then-rest-p-clause-value : goal.returns-then-rest-p-clause-value
returns-then-rest-p-clause-value c =
    let low = prepared_low 4294967296 c.self.inside.factor c.args.y c.self.inside.p c.self.inside.quotient _ (lit< tt) c.self.invariant.2 refl in
    rw (← c.self.view_is) (rest_residue c.self.inside.p (c.self.inside.quotient * c.args.y / 4294967296) (c.self.inside.factor * c.args.y) _ (omega arith) c.if-rest-p.true)

pub returns-else-rest-p-clause-value : goal.returns-else-rest-p-clause-value
returns-else-rest-p-clause-value c =
    let low = prepared_low 4294967296 c.self.inside.factor c.args.y c.self.inside.p c.self.inside.quotient _ (lit< tt) c.self.invariant.2 refl in
    let near = prepared_near 4294967296 c.self.inside.factor c.args.y c.self.inside.p c.self.inside.quotient _ (lit< tt) (omega arith) (omega arith) c.self.invariant.2 refl in
    rw (← c.self.view_is) (rest_residue c.self.inside.p (c.self.inside.quotient * c.args.y / 4294967296 + 1) (c.self.inside.factor * c.args.y) _ (omega arith) (omega arith))

pub returns-else-rest-p-clause-residue : goal.returns-else-rest-p-clause-residue
returns-else-rest-p-clause-residue c =
    let near = prepared_near 4294967296 c.self.inside.factor c.args.y c.self.inside.p c.self.inside.quotient _ (lit< tt) (omega arith) (omega arith) c.self.invariant.2 refl in
    rw (← c.self.view_is) (omega arith)
