use Rattle.std.proofs.Common.{◌≡◌, ◌<◌, ◌∙◌, inl, inr, arith, length, rules, subst, sym}
use Rattle.std.proofs.lemmas.Bool.{cases_lt}
use Rattle.residue_words.specs.declared.modulus.TheConstants.{MODULUS_BOUND}
use Rattle.sparse_rows.specs.Rows.{FitsMatrix}
use Rattle.spasm_c.proofs.Entries.{at_entries, length_entries}
use Rattle.spasm_c.proofs.InOrder.{each_fits}
use Rattle.spasm_c.specs.Given.{entry_given}
use Rattle.spasm_c.proofs.given.Given.is_sound.Goals.{then-sound, else-sound}
use Rattle.spasm_c.proofs.given.Given.is_sound.Goals as goal

pub loop-k-preserved : goal.loop-k-preserved
loop-k-preserved c =
    let a = c.args.self.now in
    let k = c.loop-k.k in
    elim c.if-sound.branch [
      | then-sound w ↦ record {
        yes = λ e q l. elim (cases_lt q k) [
          | inl less ↦ c.loop-k.invariant.yes w.if-sound.true q less
          | inr more ↦ subst (λ q. FitsMatrix a.height a.width a.modulus (entry_given a q)) (let same : k ≡ q = omega arith in same) (c.fits-fits.ensures.yes (sym w.sound-is ∙ e))
        ];
        no = λ e sound. c.fits-fits.ensures.no (sym w.sound-is ∙ e) (each_fits sound k c.loop-k-test.true);
      }
      | else-sound w ↦ record {
        yes = λ e q l. absurd (search rules);
        no = λ e. c.loop-k.invariant.no w.if-sound.false;
      }
    ]

pub returns-clause-yes : goal.returns-clause-yes
returns-clause-yes c = λ is.
    let a = c.args.self.now in
    let columns : length a.columns.now ≡ length a.rows.now = omega (arith, c.if-self.false) in
    let values : length a.values.now ≡ length a.rows.now = omega (arith, c.if-self-2.false) in
    let in_range : a.modulus < MODULUS_BOUND = search rules in
    record {
      columns = columns;
      values = values;
      two_or_more = c.if-self-lt2.false;
      in_range = in_range;
      fit = record {
        height = c.if-self-gt-LARGEST_SIZE.false;
        width = c.if-self-gt-LARGEST_SIZE-2.false;
        inside = λ k d l.
            let low : k < length a.rows.now = omega (arith, l, length_entries a.rows.now a.columns.now a.values.now columns values) in
            subst (FitsMatrix a.height a.width a.modulus) (sym (at_entries a.rows.now a.columns.now a.values.now columns values k d low))
            (c.loop-k.invariant.yes is k (omega (arith, low, c.loop-k-test.false, c.loop-k.auto.k-end)));
      };
    }
