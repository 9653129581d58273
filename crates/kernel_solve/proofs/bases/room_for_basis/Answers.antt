use Rattle.std.proofs.Common.{ap, arith}
use Rattle.kernel_solve.proofs.Free.{rising_bound}
use Rattle.kernel_solve.proofs.bases.room_for_basis.Goals as goal

pub overflow_sub-height : goal.overflow_sub-height
overflow_sub-height c =
    let sound = c.leads-leads.ensures.sound in
    omega (
      arith,
      rising_bound c.args.form.now.leads c.args.form.now.matrix.width (λ k l. sound.leads.1.inside k (omega (arith, sound.rank))) (λ k t a b. sound.leads.1.rising k t a (omega (arith, sound.rank))),
      sound.rank,
      c.rank.ensures.value,
      c.width.ensures.value,
      ap (λ m. m.width) c.rows-rows.ensures.matrix,
    )
