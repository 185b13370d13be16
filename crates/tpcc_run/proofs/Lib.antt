mod ReceiptLines
mod RequestOutcome
mod ComeBack
mod Joined
mod Kept
mod StandAfter
mod Started
mod Turned
mod Worked
pub mod Reported
