-- A break, continue or return is misplaced in both runs or in neither.
use Rattle.std.proofs.Common.{◌≡◌, List, refl}
use Rattle.actx_heap.specs.Things.{Thing}
use Rattle.actx_table.specs.Related.{World, ForCompletion, FramesAre, no_frames, bottom_is, turn_is, for_copy_is, for_turn_is, try_is, catch_frame_is, last_frame_is, list_is, call_frame_is, call_away}
use Rattle.actx_table.specs.State.{Cell, Code, Frame}
use Rattle.actx_table.specs.Statements.{may_break, may_continue, may_return}

module _ (w : World) (heap : List (Thing Code)) (scopes : List (List Cell)) where
  pub break_same : (fs gs : List Frame) → FramesAre w heap scopes ForCompletion fs gs → may_break gs ≡ may_break fs
  break_same fs gs no_frames = refl
  break_same fs gs (bottom_is m) = refl
  break_same fs gs (turn_is e st f) = refl
  break_same fs gs (for_copy_is l f) = break_same _ _ f
  break_same fs gs (for_turn_is l f) = refl
  break_same fs gs (try_is c l k f) = break_same _ _ f
  break_same fs gs (catch_frame_is l k f) = break_same _ _ f
  break_same fs gs (last_frame_is c f) = break_same _ _ f
  break_same fs gs (list_is m k f) = break_same _ _ f
  break_same fs gs (call_frame_is k x f) = refl
  break_same fs gs (call_away b x c y f) = refl

  pub continue_same : (fs gs : List Frame) → FramesAre w heap scopes ForCompletion fs gs → may_continue gs ≡ may_continue fs
  continue_same fs gs no_frames = refl
  continue_same fs gs (bottom_is m) = refl
  continue_same fs gs (turn_is e st f) = refl
  continue_same fs gs (for_copy_is l f) = continue_same _ _ f
  continue_same fs gs (for_turn_is l f) = refl
  continue_same fs gs (try_is c l k f) = continue_same _ _ f
  continue_same fs gs (catch_frame_is l k f) = continue_same _ _ f
  continue_same fs gs (last_frame_is c f) = continue_same _ _ f
  continue_same fs gs (list_is m k f) = continue_same _ _ f
  continue_same fs gs (call_frame_is k x f) = refl
  continue_same fs gs (call_away b x c y f) = refl

  pub return_same : (fs gs : List Frame) → FramesAre w heap scopes ForCompletion fs gs → may_return gs ≡ may_return fs
  return_same fs gs no_frames = refl
  return_same fs gs (bottom_is m) = refl
  return_same fs gs (turn_is e st f) = return_same _ _ f
  return_same fs gs (for_copy_is l f) = return_same _ _ f
  return_same fs gs (for_turn_is l f) = return_same _ _ f
  return_same fs gs (try_is c l k f) = return_same _ _ f
  return_same fs gs (catch_frame_is l k f) = return_same _ _ f
  return_same fs gs (last_frame_is c f) = return_same _ _ f
  return_same fs gs (list_is m k f) = return_same _ _ f
  return_same fs gs (call_frame_is k x f) = refl
  return_same fs gs (call_away b x c y f) = refl
