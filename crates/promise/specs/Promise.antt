-- The whole promise, and where each part of it is stated. A part without its proof fails the check of this crate.
use seplogic.Ra.Ura.{Ura}
use prog.Memory.{Memory}
use prog.Routine.{Routine}
use types.Logic.{Logic}
use base.Logic.{SProp}
use contract.Monad.{Fun}
use Rattle.model.specs.Theorem.{ListTheorem, FreshStart, EachAnswer}
use Rattle.model.specs.Runs.{JournalRuns, BatchesRun, EntryReturns, EntryRuns}
use Rattle.model.specs.Lives.{LifeLaws}
use Rattle.model.specs.Alike.{AlikeLaws}
use Rattle.model.specs.Contexts.{ContextLaws}
use Rattle.model.specs.EmptyImage.{EmptyImage}
use Rattle.model.specs.Edges.{Edges}
use Rattle.model.specs.Listing.{Listing}
use Rattle.model.specs.Cases.{CallCases}
use Rattle.model.specs.OrderCases.{OrderCases}
use Rattle.model.specs.ContextCases.{ContextCases}
use Rattle.model.specs.JournalCases.{JournalCases}
use Rattle.model.specs.ImageCases.{ImageCases, EntryCases}
use Rattle.image.specs.Laws.{ImageLaws}
use Rattle.promise.specs.PublicContracts.{Contracts}

pub record Promise : Type 2 where
  -- after every list of calls, saves and loads: containment, lineages that end, exact checks, exact revokes (`model`, Theorem.antt)
  pub list_theorem : ListTheorem
  -- a fresh register is a start for it
  pub fresh_start : FreshStart
  -- every answer has its bounds, and what is refused leaves the register as it was (`model`, Theorem.antt)
  pub each_answer : EachAnswer
  -- lives over every tick, and the calls that read the clock against them (`model`, Lives.antt)
  pub life_laws : LifeLaws
  -- what same tells of two capabilities, and the checks and opens on two that it finds equal (`model`, Alike.antt)
  pub alike_laws : AlikeLaws
  -- contexts that are admitted up the lineage, and checks in one context and in others (`model`, Contexts.antt)
  pub context_laws : ContextLaws
  -- what runs are such lists (`model`, Runs.antt): a journal, batches one after the other, and calls from C on the image kept
  pub journal_runs : JournalRuns
  pub batches_run : BatchesRun
  pub entry_returns : EntryReturns
  pub entry_runs : EntryRuns
  -- an image is read back as its register, and nothing else is accepted but the empty image (`image`, Laws.antt)
  pub image_laws : ImageLaws
  -- the empty image is the fresh register: to load, in lists, at the entry point and in chains of calls from C (`model`, EmptyImage.antt)
  pub empty_image : EmptyImage
  -- the worked cases E1 to E8 and the four mistakes (`model`, Edges.antt), and the listing (`model`, Listing.antt)
  pub edges : Edges
  pub listing : Listing
  -- worked cases of what no theorem speaks of (`model`): calls, orders of refusals, contexts of checks, lines, one image byte by byte,
  -- the entry point
  pub call_cases : CallCases
  pub order_cases : OrderCases
  pub context_cases : ContextCases
  pub journal_cases : JournalCases
  pub image_cases : ImageCases
  pub entry_cases : EntryCases
  -- the public functions do what the definitions say (Contracts.antt)
  pub contracts : {M : Type 1} {𝓤 : Ura M} (𝓛 : Logic 𝓤) (mem : Memory → SProp 𝓤) (runs : Routine → Fun 𝓤) → Contracts 𝓛 mem runs
