use Rattle.std.proofs.Common.{◌≡◌, ◌++◌, decimal, ap, ◌∙◌}
use Rattle.std.proofs.lemmas.Fmt.{contents_after_writes}
use Rattle.bptree_commands.proofs.reply.send_number.Goals as goal

-- The digits were empty, and the text of the number was written to them.
pub returns-in-Ok : goal.returns-in-Ok
returns-in-Ok g c =
    let written = contents_after_writes (λ s bs t. t.bytes ≡ s.bytes ++ bs) (λ s. s.bytes) (λ s bs t h. h) c.new-digits.result (decimal c.args.n) c.write.new.self c.in-Ok.ensures.writes in
    rw (c.as_bytes.ensures.value ∙ c.as_str.ensures.value ∙ written ∙ ap (λ bs. bs ++ decimal c.args.n) c.new-digits.ensures) at c.send.ensures
