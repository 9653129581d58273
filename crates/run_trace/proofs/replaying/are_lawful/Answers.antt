-- Publication by publication.
use Rattle.std.proofs.Common.{ℕ, ◌≡◌, ◌∙◌, true, ◌≤◌, ◌++◌, ◌∷◌, [], slice_index, arith}
use Rattle.std.proofs.lemmas.Bool.{cond-true}
use Rattle.optimistic_search.specs.Renamed.{renamed}
use Rattle.run_trace.proofs.ReplayedTraces.{at, replay_alive, replay_goes, replay_low}
use Rattle.run_trace.proofs.replaying.are_lawful.Goals as goal

pub returns-then-version-k : goal.returns-then-version-k
returns-then-version-k g c =
    ((λ t. absurd (cc)), (λ lawful. absurd (omega (arith, replay_low c.args.rows.now.matrix c.args.publications.now c.loop-k.k c.loop-k-test.true lawful, c.if-version-k.true))))

pub returns-then-not-append_named : goal.returns-then-not-append_named
returns-then-not-append_named g c =
    let inv = c.loop-k.invariant in (
      (λ t. absurd (cc)),
      (λ lawful.
          let is : c.append_named.result ≡ true =
          c.append_named.ensures.alive.1 (replay_alive c.args.rows.now.matrix c.args.publications.now c.loop-k.k _ inv.3 c.loop-k-test.true lawful) in
          absurd (let no = c.if-not-append_named.true in cc)),
    )

pub loop-k-preserved : goal.loop-k-preserved
loop-k-preserved g c =
    let inv = c.loop-k.invariant in
    let list = c.args.publications.now in
    let k = c.loop-k.k in
    let f : ℕ → ℕ = slice_index c.args.columns.now in
    let yes : c.append_named.result ≡ true = c.if-not-append_named.false in
    let h = renamed f c.loop-k.walk.pairs in
    let low : (at list k).version ≤ k = c.if-version-k.false in (
      c.append_named.ensures.rows ∙ inv.0,
      c.append_named.ensures.closed,
      c.append_named.ensures.inside,
      replay_goes c.args.rows.now.matrix list k h inv.3 (renamed f c.append_named.new.walk.pairs) c.loop-k-test.true low (c.append_named.ensures.alive.0 yes)
          (c.append_named.ensures.pairs ∙ cond-true c.append_named.result (h ++ (at list k).pair ∷ []) h yes),
    )
