-- The whole promise, each part by the proof that its crate has of it.
use Rattle.model.proofs.ListTheorem.{list_theorem}
use Rattle.model.proofs.EachAnswer.{each_answer}
use Rattle.model.proofs.Lives.{life_laws}
use Rattle.model.proofs.Alike.{alike_laws}
use Rattle.model.proofs.Contexts.{context_laws}
use Rattle.model.proofs.Runs.{journal_runs, batches_run, entry_returns}
use Rattle.model.proofs.EmptyImage.{empty_image}
use Rattle.model.proofs.Edges.{fresh_formed, edges}
use Rattle.model.proofs.Listing.{listing_played}
use Rattle.model.proofs.Cases.{call_cases}
use Rattle.model.proofs.OrderCases.{order_cases}
use Rattle.model.proofs.ContextCases.{context_cases}
use Rattle.model.proofs.JournalCases.{journal_cases}
use Rattle.model.proofs.ImageCases.{image_cases, entry_cases}
use Rattle.image.proofs.Accepted.{image_laws}
use Rattle.promise.specs.Promise.{Promise}
use Rattle.promise.proofs.Chain.{entry_runs}
use Rattle.promise.proofs.PublicContracts.{contracts}

pub promise : Promise
promise =
    record {
      list_theorem = list_theorem;
      fresh_start = fresh_formed;
      each_answer = each_answer;
      life_laws = life_laws;
      alike_laws = alike_laws;
      context_laws = context_laws;
      journal_runs = journal_runs;
      batches_run = batches_run;
      entry_returns = entry_returns;
      entry_runs = entry_runs;
      image_laws = image_laws;
      empty_image = empty_image;
      edges = edges;
      listing = listing_played;
      call_cases = call_cases;
      order_cases = order_cases;
      context_cases = context_cases;
      journal_cases = journal_cases;
      image_cases = image_cases;
      entry_cases = entry_cases;
      contracts = contracts;
    }
