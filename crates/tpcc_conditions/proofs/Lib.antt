mod Number
mod District
mod First
mod StockedRows
mod Opening
