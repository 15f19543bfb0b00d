pub mod Sound
pub mod Chains
pub mod Cells
pub mod View
pub mod ThingView
pub mod MethodView
pub mod NoteView
pub mod MachineView
