use Rattle.residue_words.proofs.Digits.{next_digit}
use Rattle.residue_words.proofs.fold.Fold.push_digit.Goals as goal

pub returns : goal.returns
returns c = λ p n h.
    rw (c.from.ensures) (next_digit p n c.args.d c.self.inside.p c.self.inside.kept c.lowered.result (rw (← c.self.view_is) at h)
    c.lowered.ensures.same c.lowered.ensures.zero c.lowered.ensures.nonzero)
