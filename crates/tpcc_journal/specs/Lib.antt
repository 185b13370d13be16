pub mod Log
pub mod EntryRefs
pub mod Internal
