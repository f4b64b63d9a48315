-- What printing an answer and a model does.
use Rattle.std.specs.Prelude.{◌≡◌, ◌≢◌, ◌⊎◌, ℕ, false, List, [], ◌∷◌, ◌++◌}
use Rattle.gi_outside.specs.World.{World, Wrote, WroteCut}
use Rattle.gi_model.specs.History.{Entry}
use Rattle.gi_model.specs.declared.calls.Call.TheVariants as call
use Rattle.gi_model.specs.declared.replies.Reply.{Reply}
use Rattle.gi_model.specs.declared.replies.Reply.TheVariants as reply
use Rattle.gi_net.specs.Standing.{Standing}
use Rattle.gi_batch.specs.declared.answer.Stop.{Stop}
use Rattle.gi_batch.specs.declared.answer.Stop.TheVariants as stops
use Rattle.gi_batch.specs.Grown.{Grown}
use Rattle.gi_batch.specs.Doing.{AsksModel}
use Rattle.gi_batch.specs.Output.{model_text, output}
use Rattle.gi_batch.specs.Making.{IsMade}
use Rattle.gi_batch.specs.Done.{AreProper, StopsBy, is_model}

-- a model was printed
abbrev pub Prints : Reply → World → World → Type 0
Prints r v w = (literals : List ℕ) × (r ≡ reply.Model literals) × Wrote v w (model_text literals)

-- why it wasn't, or not whole: it is none, or the output was cut
abbrev pub PrintsNot : Stop → Reply → World → World → Type 0
PrintsNot stops.WriteFault r v w = (literals : List ℕ) × (r ≡ reply.Model literals)
    × WroteCut v w (model_text literals)
PrintsNot stops.Denied r v w = (is_model r ≡ false) × (w ≡ v)
PrintsNot stops.NoMemory r v w = ⊥
PrintsNot stops.TooMuch r v w = ⊥

-- the model was asked for and printed
pub record ShowsModel (v w : World) (h k : Standing) : Type 0 where
  pub literals : List ℕ
  pub made : IsMade call.Model (reply.Model literals) h k
  pub wrote : Wrote v w (model_text literals)

-- no model was told
pub record IsUntold (r : Reply) (v w : World) (h k : Standing) : Type 0 where
  pub made : IsMade call.Model r h k
  pub none : is_model r ≡ false
  pub silent : w ≡ v

-- it wasn't, or not whole
abbrev pub ShowsNoModel : Stop → World → World → Standing → Standing → Type 0
ShowsNoModel stops.WriteFault v w h k = (literals : List ℕ)
    × IsMade call.Model (reply.Model literals) h k × WroteCut v w (model_text literals)
ShowsNoModel stops.TooMuch v w h k = Grown h k [] × (k.left ≡ 0) × (w ≡ v)
ShowsNoModel stops.Denied v w h k = (r : Reply) × IsUntold r v w h k × (r ≢ reply.NoMemory)
ShowsNoModel stops.NoMemory v w h k = (Grown h k [] × (w ≡ v)) ⊎ IsUntold reply.NoMemory v w h k

-- the answer of a wait was printed, and the model where there is one
pub record Shows (wait : Entry) (v w : World) (h k : Standing) : Type 0 where
  pub shown : List Entry
  pub grown : Grown h k shown
  pub asks : AsksModel wait.reply shown
  pub proper : AreProper shown
  pub wrote : Wrote v w (output (wait ∷ shown))

-- they weren't, or not whole
pub record ShowsNot (by : Stop) (wait : Entry) (v w : World) (h k : Standing) : Type 0 where
  pub shown : List Entry
  pub rest : List Entry
  pub grown : Grown h k shown
  pub asks : AsksModel wait.reply (shown ++ rest)
  pub cause : StopsBy by (wait ∷ shown) rest v w k
