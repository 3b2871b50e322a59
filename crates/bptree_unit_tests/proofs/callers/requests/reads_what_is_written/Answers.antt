use Rattle.std.proofs.Common.{sym, ◌∙◌}
use Rattle.bptree_protocol.specs.declared.Request.TheVariants.{Put, Get, Del, At, Rank, Clear, Len, All, First, Last}
use Rattle.bptree_unit_tests.proofs.callers.requests.reads_what_is_written.Goals as goal

pub returns : goal.returns
returns c =
    let read = c.read_request.ensures in
    let writing = c.one_writing.ensures c.args.line.now in
    record {
      put = λ k v fits fits_too is. read ∙ (writing (Put k v)).1 (is, (fits, fits_too));
      get = λ k fits is. read ∙ (writing (Get k)).1 (is, fits);
      del = λ k fits is. read ∙ (writing (Del k)).1 (is, fits);
      at = λ i fits is. read ∙ (writing (At i)).1 (is, fits);
      rank = λ k fits is. read ∙ (writing (Rank k)).1 (is, fits);
      clear = λ is. read ∙ (writing Clear).1 (is, tt);
      len = λ is. read ∙ (writing Len).1 (is, tt);
      all = λ is. read ∙ (writing All).1 (is, tt);
      first = λ is. read ∙ (writing First).1 (is, tt);
      last = λ is. read ∙ (writing Last).1 (is, tt);
      no_other = λ request is. ((writing request).0 (sym read ∙ is)).0;
    }
