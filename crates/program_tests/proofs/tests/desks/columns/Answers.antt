use Rattle.std.proofs.Common.{◌≡◌, ◌<◌, List, [], length, arith, subst, sym}
use Rattle.std.specs.Prelude.{All}
use Rattle.std.proofs.lemmas.List.Elements.{All-push}
use Rattle.sparse_rows.specs.Rows.{ResidueMatrix}
use Rattle.program_tests.proofs.tests.desks.columns.Goals as goal

pub returns-clause-few : goal.returns-clause-few
returns-clause-few c = let a = c.in_ok-push-3.ensures.len in let b = c.in_ok-push-2.ensures.len in let d = c.in_ok-push.ensures.len in let e = c.new-columns.ensures.len in omega arith

pub returns-clause-columns : goal.returns-clause-columns
returns-clause-columns c =
    let P : ResidueMatrix → Type 0 = λ b. (b.modulus ≡ 7) × (b.matrix.height ≡ 3) × (b.matrix.width ≡ 1) in
    let none : All P [] = λ k d l. let z : k < length {A = ResidueMatrix} [] = l in absurd (omega arith) in
    let one = c.in_ok-built.ensures in
    let two = c.in_ok-built-2.ensures in
    let three = c.in_ok-built-3.ensures in
    let first : All P c.new-columns.result.items = subst (λ (l : List ResidueMatrix). All P l) (sym c.new-columns.ensures.items) none in
    let second : All P c.push.new.self.items = subst (λ (l : List ResidueMatrix). All P l) (sym c.in_ok-push.ensures.items) (All-push P c.new-columns.result.items c.in_ok-built.field-0 first (one.modulus, one.height, one.width)) in
    let third : All P c.push-2.new.self.items = subst (λ (l : List ResidueMatrix). All P l) (sym c.in_ok-push-2.ensures.items) (All-push P c.push.new.self.items c.in_ok-built-2.field-0 second (two.modulus, two.height, two.width)) in
    subst (λ (l : List ResidueMatrix). All P l) (sym c.in_ok-push-3.ensures.items) (All-push P c.push-2.new.self.items c.in_ok-built-3.field-0 third (three.modulus, three.height, three.width))
