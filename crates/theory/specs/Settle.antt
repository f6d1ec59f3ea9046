-- Runs settled by someone who answers looks: a garment with its rule answers all, knowledge leaves some open.
use Rattle.std.specs.Prelude.{◌≡◌, Bool, Some, None, Option}
use Rattle.measure.specs.Measure.{Measure}
use Rattle.rules.specs.Book.{Schema}
use Rattle.rules.specs.Sheets.{Answer}
use Rattle.theory.specs.Runs.{Look, Run, done, look, World, execute}
use Rattle.theory.specs.Knowledge.{Knowledge, tells, Askable}
use Rattle.theory.specs.Explore.{by_answer, explore, explore_second, Proper}

-- who answers looks: yes, no, or open
abbrev pub Known : Type 0
Known = Look → Option Bool

-- the known looks are taken; it stops at the first open one
abbrev pub settle : Known → Run → Run
settle known (done a) = done a
settle known (look l y n) = by_answer (known l) (settle known y) (settle known n) (look l y n)

-- a run stops at the open look
abbrev pub WaitsFor : Known → Run → Look → Type 0
WaitsFor known r l = (y : Run) × (n : Run) × (settle known r ≡ look l y n)

-- whatever is known stays known, and is so in a world
abbrev pub Grows : Known → Known → Type 0
Grows known later = (l : Look) (b : Bool) → known l ≡ Some b → later l ≡ Some b

abbrev pub Agrees : Known → World → Type 0
Agrees known w = (l : Look) (b : Bool) → known l ≡ Some b → w l ≡ b

-- ── what is proved ──

pub record Settling : Type 0 where
  -- one who knows all settles a run to its answer
  pub total : (known : Known) (w : World) (r : Run) → ((l : Look) → known l ≡ Some (w l)) → settle known r ≡ done (execute r w)
  -- settling does not change what a world answers
  pub answers : (known : Known) (w : World) (r : Run) → Agrees known w → execute (settle known r) w ≡ execute r w
  -- the look at which a run stops is open
  pub stops_open : (known : Known) (r : Run) (l : Look) → WaitsFor known r l → known l ≡ None
  -- what was settled before need not be settled again
  pub goes_on : (known later : Known) (r : Run) → Grows known later → settle later (settle known r) ≡ settle later r
  -- exploring goes by settled runs
  pub explores : (m : Measure) (d : Schema) (k : Knowledge) (first second : Run) → explore m d k first second ≡ explore m d k (settle (tells m d k) first) second
  pub explores_second : (m : Measure) (d : Schema) (k : Knowledge) (a : Answer) (second : Run) → explore_second m d k a second ≡ explore_second m d k a (settle (tells m d k) second)
  -- a proper run stops only at a look that may be taken, and is proper there
  pub stays_Proper : (m : Measure) (d : Schema) (k : Knowledge) (r : Run) → Proper m d k r → Proper m d k (settle (tells m d k) r)
  pub stops_Askable : (m : Measure) (d : Schema) (k : Knowledge) (r : Run) (l : Look) → Proper m d k r → WaitsFor (tells m d k) r l → Askable m d k l
