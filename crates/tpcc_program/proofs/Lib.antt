mod EndedScripts
mod NextRequests
mod ToldRuns
