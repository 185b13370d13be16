mod Queues
mod Run
