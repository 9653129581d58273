use Rattle.std.proofs.Common.{ℕ, ◌∙◌}
use Rattle.byte_streams.proofs.Filling.{fill_whole, fill_keeps}
use Rattle.byte_streams.proofs.buffer.Buffer.fill.Goals as goal

pub invariant_of-self-2 : goal.invariant_of-self-2
invariant_of-self-2 g c =
    let block = c.in_ok-open_room.ensures in
    fill_keeps c.self.inside.bytes.items c.open_room.new.bytes.items block.0 c.pull_behind-pulled.new.bytes.items c.truncate.new.self.items
    c.len-end.result c.pulled_count.result c.self.inside.start c.self.inside.scanned (c.len-end.ensures ∙ c.self.inside.bytes.ok.0) block.2 c.truncate.ensures.items c.self.invariant c.pull_behind-pulled.ensures.front

pub returns-clause-did : goal.returns-clause-did
returns-clause-did g c =
    let block = c.in_ok-open_room.ensures in
    fill_whole ℕ c.pull_behind-pulled.result c.args.self.now c.self.inside.bytes.items c.open_room.new.bytes.items block.0 c.pull_behind-pulled.new.bytes.items c.truncate.new.self.items
    c.len-end.result c.pulled_count.result c.self.inside.start _ _ (c.self.view_is ∙ c.close_up.ensures) (c.len-end.ensures ∙ c.self.inside.bytes.ok.0) block.2 c.pulled_count.ensures c.truncate.ensures.items c.self.invariant.0 block.1 c.pull_behind-pulled.ensures.same_length
    c.pull_behind-pulled.ensures.front c.pull_behind-pulled.ensures.did
