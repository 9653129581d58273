-- By the kinds of error that clap may give.
use Rattle.std.proofs.Common.{◌≢◌, rules}
use Rattle.clap.specs.Words.{app_of, kind_of}
use Rattle.clap.specs.declared.error.kind.ErrorKind.TheVariants.{OutOfMemory}
use Rattle.spasm_words.proofs.Matching.{refused_as, taken_as}
use Rattle.spasm_words.proofs.options.taken_by.Goals as goal

pub returns-in-Ok : goal.returns-in-Ok
returns-in-Ok c = taken_as (app_of c.args.line) _ c.in-Ok.matches c.requires c.in-Ok.ensures.kinds c.in-Ok.ensures.matches

pub returns-else-eq : goal.returns-else-eq
returns-else-eq c =
    let other : kind_of c.in-Err.error ≢ OutOfMemory = search rules in
    refused_as (app_of c.args.line) _ c.in-Err.error c.requires c.in-Err.ensures.kinds other
