use Rattle.spasm_words.proofs.Generating.{generated_so}
use Rattle.spasm_words.proofs.generator.generated_example.Goals as goal

pub returns : goal.returns
returns c = generated_so
